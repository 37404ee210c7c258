-- `read_text_parameters::held_at` meets its contract. Assumes nothing.
use Rattle.read_text_parameters.specs.laws.Rounds.{held_here}
use Rattle.read_text_parameters.proofs.rounds.held_at.Goals as goal

pub returns-then-is_found : goal.returns-then-is_found
returns-then-is_found g c = held_here c.in_ok-a.ensures c.is_found.ensures c.if-is_found.true
