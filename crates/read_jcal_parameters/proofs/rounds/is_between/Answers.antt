-- `read_jcal_parameters::rounds::is_between` meets its contract.
use Rattle.read_jcal_parameters.specs.laws.Rounds.{between_yes, between_not}
use borrow.Author.Rules.{rules}
use Rattle.read_jcal_parameters.proofs.rounds.is_between.Goals as goal

pub returns-then-behind : goal.returns-then-behind
returns-then-behind c = search (between_yes, rules)

pub returns : goal.returns
returns c = search (between_not, rules)
