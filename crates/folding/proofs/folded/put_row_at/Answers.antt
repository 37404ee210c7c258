-- `folding::put_row_at` meets its contract.
use Rattle.sink.specs.laws.Sink.{writing}
use Rattle.sink.specs.laws.Rest.{put_rest}
use Rattle.folding.proofs.folded.put_row_at.Goals as goal

pub smaller-from-requires : goal.smaller-from-requires
smaller-from-requires c = search writing

pub slice_bounds-put_row-count : goal.slice_bounds-put_row-count
slice_bounds-put_row-count c = search writing

pub slice_bounds-put_row-start : goal.slice_bounds-put_row-start
slice_bounds-put_row-start c = search writing

pub slice_bounds-put_row-end : goal.slice_bounds-put_row-end
slice_bounds-put_row-end c = search writing

pub put_row-n-requires : goal.put_row-n-requires
put_row-n-requires c = search writing

pub onward-requires : goal.onward-requires
onward-requires c = search writing

pub shape_of-out : goal.shape_of-out
shape_of-out c = search writing

pub returns : goal.returns
returns c = search (put_rest, writing)
