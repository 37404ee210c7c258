-- `read_text_parameters::first_in_rounds`, which calls itself, meets its contract. Assumes nothing.
use Rattle.read_text_parameters.specs.laws.Rounds.{ends_here}
use borrow.Author.Rules.{rules}
use Rattle.read_text_parameters.proofs.once.+first_in_rounds.Goals as goal

pub returns-then-is_end : goal.returns-then-is_end
returns-then-is_end g t c = search (ends_here, rules)
