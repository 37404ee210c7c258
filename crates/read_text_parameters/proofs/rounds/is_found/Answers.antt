-- `read_text_parameters::is_found` meets its contract. Assumes nothing.
use Rattle.read_text_parameters.specs.laws.Rounds.{stands_here, stands_not}
use borrow.Author.Rules.{rules}
use Rattle.read_text_parameters.proofs.rounds.is_found.Goals as goal

pub returns-then-i-n : goal.returns-then-i-n
returns-then-i-n g c = search (stands_here, rules)

pub returns : goal.returns
returns g c = search (stands_not, rules)
