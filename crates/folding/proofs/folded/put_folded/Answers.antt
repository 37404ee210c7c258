-- `folding::put_folded` meets its contract.
use mathlib.Core.Path.{◌≡◌}
use Prim.Native.Nat.{◌-◌, ◌≤◌}
use native.Mathlib.Omega.{arith}
use lib.ListN.{length, drop}
use lib.Seq.{length-take-le}
use borrow.Author.Rules.{rules}
use Rattle.sink.specs.Sink.{Todo}
use Rattle.sink.specs.laws.Sink.{writing}
use Rattle.folding.specs.Rows.{spaced}
use Rattle.folding.specs.laws.Rows.{takes_some}
use Rattle.folding.proofs.Rowed.{todo_begun, todo_next, todo_rows}
use Rattle.folding.proofs.folded.put_folded.Goals as goal

pub row_end-i-requires : goal.row_end-i-requires
row_end-i-requires c = search writing

pub slice_bounds-put_row_at-end : goal.slice_bounds-put_row_at-end
slice_bounds-put_row_at-end c = search (length-take-le, writing)

pub put_row_at-o-requires : goal.put_row_at-o-requires
put_row_at-o-requires c = search writing

pub loop-i-init : goal.loop-i-init
loop-i-init c = (search rules, search todo_begun, search rules)

pub row_end-e-requires : goal.row_end-e-requires
row_end-e-requires c = search writing

pub slice_bounds-put_row_at-count : goal.slice_bounds-put_row_at-count
slice_bounds-put_row_at-count c = search writing

pub slice_bounds-put_row_at-start : goal.slice_bounds-put_row_at-start
slice_bounds-put_row_at-start c = search writing

pub slice_bounds-put_row_at-end-in-loop-i : goal.slice_bounds-put_row_at-end-in-loop-i
slice_bounds-put_row_at-end-in-loop-i c = search writing

pub put_row_at-o-requires-in-loop-i : goal.put_row_at-o-requires-in-loop-i
put_row_at-o-requires-in-loop-i c = search writing

pub loop-i-smaller : goal.loop-i-smaller
loop-i-smaller c = omega (arith, takes_some c.row_end-e.ensures c.loop-i-test.true)

pub loop-i-preserved : goal.loop-i-preserved
loop-i-preserved c = (search rules, search todo_next, search rules)

pub shape_of-out : goal.shape_of-out
shape_of-out c = search writing

pub returns : goal.returns
returns c = search (todo_rows, rules)
