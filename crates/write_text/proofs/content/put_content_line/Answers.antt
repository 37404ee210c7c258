-- `write_text::content::put_content_line` meets its contract.
use lib.Seq.{length-take-le}
use borrow.Author.Rules.{rules}
use Rattle.write_text.specs.laws.Content.{line_put}
use Rattle.write_text.proofs.content.put_content_line.Goals as goal

pub slice_bounds-row_of-end : goal.slice_bounds-row_of-end
slice_bounds-row_of-end c = search (length-take-le, rules)

pub slice_bounds-put_upper-end : goal.slice_bounds-put_upper-end
slice_bounds-put_upper-end c = search (length-take-le, rules)

pub returns : goal.returns
returns c = line_put _ _ _ _ c.row_of-row.ensures c.put_upper-a.ensures c.put_all_parameters-b.ensures c.put_all_values.ensures
