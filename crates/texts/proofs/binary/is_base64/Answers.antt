-- `texts::binary::is_base64` meets its contract.
use Rattle.std.proofs.Common.{arith}
use Rattle.std.proofs.lemmas.Bool.Decides.{nat_tests}
use Rattle.octets.specs.Pick.{◌or◌}
use Rattle.texts.proofs.binary.is_base64.Goals as goal

pub returns-then-u-eq-PLUS : goal.returns-then-u-eq-PLUS
unfolding ◌or◌
returns-then-u-eq-PLUS c = grind (arith, nat_tests)
