-- `texts::uri::is_scheme_char` meets its contract.
use Rattle.std.proofs.Common.{arith}
use Rattle.std.proofs.lemmas.Bool.Decides.{nat_tests}
use Rattle.octets.specs.Pick.{◌or◌}
use Rattle.texts.proofs.uri.is_scheme_char.Goals as goal

pub returns-then-u-eq-HYPHEN : goal.returns-then-u-eq-HYPHEN
unfolding ◌or◌
returns-then-u-eq-HYPHEN c = grind (arith, nat_tests)
