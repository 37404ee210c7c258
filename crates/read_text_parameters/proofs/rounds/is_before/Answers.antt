-- `read_text_parameters::is_before` meets its contract. Assumes nothing.
use Rattle.read_text_parameters.specs.laws.Rounds.{before_here, before_none}
use borrow.Author.Rules.{rules}
use Rattle.read_text_parameters.proofs.rounds.is_before.Goals as goal

pub returns-then-i-n : goal.returns-then-i-n
returns-then-i-n g c = search (before_here, rules)

pub returns : goal.returns
returns g c = search (before_none, rules)
