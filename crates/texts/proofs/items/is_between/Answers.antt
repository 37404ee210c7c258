-- `texts::items::is_between` meets its contract.
use Rattle.std.proofs.Common.{arith}
use Rattle.std.proofs.lemmas.Bool.Decides.{nat_tests}
use Rattle.octets.specs.Pick.{pick, ◌and◌}
use Rattle.texts.proofs.items.is_between.Goals as goal

pub returns-else-u-sep : goal.returns-else-u-sep
unfolding pick ◌and◌
returns-else-u-sep c = grind (arith, nat_tests)
