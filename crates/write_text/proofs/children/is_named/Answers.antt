-- `write_text::children::is_named` meets its contract.
use lib.Seq.{length-take-le}
use borrow.Author.Rules.{rules}
use Rattle.write_text.proofs.children.is_named.Goals as goal

pub slice_bounds-is_word-end : goal.slice_bounds-is_word-end
slice_bounds-is_word-end c = search (length-take-le, rules)
