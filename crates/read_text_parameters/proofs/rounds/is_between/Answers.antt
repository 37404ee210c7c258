-- `read_text_parameters::is_between` meets its contract. Assumes nothing.
use Rattle.read_text_parameters.specs.laws.Rounds.{between_yes, between_not}
use borrow.Author.Rules.{rules}
use Rattle.read_text_parameters.proofs.rounds.is_between.Goals as goal

pub returns-then-behind : goal.returns-then-behind
returns-then-behind g c = search (between_yes, rules)

pub returns : goal.returns
returns g c = search (between_not, rules)
