-- `read_json::is_number_sign` meets its contract.
use Rattle.octets.specs.Pick.{◌or◌}
use Rattle.std.proofs.lemmas.Grind.{common_steps}
use Rattle.std.proofs.Common.{arith}
use Rattle.read_json.proofs.ends.is_number_sign.Goals as goal

pub returns-then-u-eq-PLUS : goal.returns-then-u-eq-PLUS
unfolding ◌or◌
returns-then-u-eq-PLUS c = grind (arith, common_steps)

pub returns-else-u-eq-PLUS : goal.returns-else-u-eq-PLUS
unfolding ◌or◌
returns-else-u-eq-PLUS c = grind (arith, common_steps)
