-- `read_json::is_scalar` meets its contract.
use Rattle.octets.specs.Pick.{◌or◌}
use Rattle.std.proofs.lemmas.Grind.{common_steps}
use Rattle.std.proofs.Common.{arith}
use Rattle.read_json.proofs.ends.is_scalar.Goals as goal

pub returns-then-is_small : goal.returns-then-is_small
unfolding ◌or◌
returns-then-is_small c = grind (arith, common_steps)

pub returns-else-is_small : goal.returns-else-is_small
unfolding ◌or◌
returns-else-is_small c = grind (arith, common_steps)
