-- `read_text_parameters::is_behind` meets its contract. Assumes nothing.
use Rattle.read_text_parameters.specs.laws.Rounds.{behind_here, behind_none}
use borrow.Author.Rules.{rules}
use Rattle.read_text_parameters.proofs.rounds.is_behind.Goals as goal

pub returns-then-i-gt0 : goal.returns-then-i-gt0
returns-then-i-gt0 g c = search (behind_here, rules)

pub returns : goal.returns
returns g c = search (behind_none, rules)
