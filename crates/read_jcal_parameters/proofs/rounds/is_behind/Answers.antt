-- `read_jcal_parameters::rounds::is_behind` meets its contract.
use Rattle.read_jcal_parameters.specs.laws.Rounds.{behind_here, behind_none}
use borrow.Author.Rules.{rules}
use Rattle.read_jcal_parameters.proofs.rounds.is_behind.Goals as goal

pub returns-then-i-gt0 : goal.returns-then-i-gt0
returns-then-i-gt0 c = search (behind_here, rules)

pub returns : goal.returns
returns c = search (behind_none, rules)
