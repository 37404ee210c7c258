-- `write_text::children::is_value_named` meets its contract.
use lib.Seq.{length-take-le}
use borrow.Author.Rules.{rules}
use Rattle.write_text.proofs.children.is_value_named.Goals as goal

pub slice_bounds-is_value_name-end : goal.slice_bounds-is_value_name-end
slice_bounds-is_value_name-end c = search (length-take-le, rules)
