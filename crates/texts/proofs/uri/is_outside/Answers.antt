-- `texts::uri::is_outside` meets its contract.
use Rattle.std.proofs.Common.{arith}
use Rattle.std.proofs.lemmas.Bool.Decides.{nat_tests}
use Rattle.octets.specs.Pick.{◌or◌}
use Rattle.texts.proofs.uri.is_outside.Goals as goal

pub returns-then-u-eq-BAR : goal.returns-then-u-eq-BAR
unfolding ◌or◌
returns-then-u-eq-BAR c = grind (arith, nat_tests)
