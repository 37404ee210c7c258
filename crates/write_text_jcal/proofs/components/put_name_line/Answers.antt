-- `write_text_jcal::put_name_line` meets its contract. Assumes nothing.
use Rattle.write_text_jcal.specs.laws.Walks.{name_within, name_cut, name_folded}
use Rattle.sink.specs.laws.Sink.{writing}
use Rattle.write_text_jcal.proofs.components.put_name_line.Goals as goal

pub put_all-a-requires : goal.put_all-a-requires
put_all-a-requires c = search writing

pub put_upper-n-requires : goal.put_upper-n-requires
put_upper-n-requires c = search writing

pub slice_bounds-put_folded-end : goal.slice_bounds-put_folded-end
slice_bounds-put_folded-end c = name_within _ c.put_all-a.ensures c.put_upper-n.ensures c.requires

pub slice_bounds-put_folded-end-2 : goal.slice_bounds-put_folded-end-2
slice_bounds-put_folded-end-2 c = name_cut _ c.put_all-a.ensures c.put_upper-n.ensures c.requires

pub put_folded-requires : goal.put_folded-requires
put_folded-requires c = search writing

pub shape_of-out : goal.shape_of-out
shape_of-out c = search writing

pub shape_of-line : goal.shape_of-line
shape_of-line c = search writing

pub returns : goal.returns
returns c = name_folded _ c.put_all-a.ensures c.put_upper-n.ensures c.requires c.put_folded.ensures
