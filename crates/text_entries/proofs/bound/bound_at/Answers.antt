-- `text_entries::bound::bound_at` meets its contract.
use borrow.Author.Rules.{rules}
use Rattle.text_entries.specs.laws.Bounds.{found_bound, opens_not}
use Rattle.text_entries.proofs.bound.bound_at.Goals as goal

pub returns-then-opens : goal.returns-then-opens
returns-then-opens g c = search (found_bound, rules)

pub line_aside-requires : goal.line_aside-requires
line_aside-requires g c = search (opens_not, rules)
