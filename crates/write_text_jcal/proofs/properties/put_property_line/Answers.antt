-- `write_text_jcal::put_property_line` meets its contract. Assumes nothing.
use Rattle.write_text_pieces.specs.laws.Room.{room_within, room_cut, folded_put}
use borrow.Author.Rules.{rules}
use Rattle.sink.specs.laws.Sink.{writing}
use Rattle.write_text_jcal.proofs.properties.put_property_line.Goals as goal

pub put_content_line-n-requires : goal.put_content_line-n-requires
put_content_line-n-requires c = (c.requires.0, c.requires.1)

pub slice_bounds-put_folded-end : goal.slice_bounds-put_folded-end
slice_bounds-put_folded-end c = room_within c.put_content_line-n.ensures c.requires.2

pub slice_bounds-put_folded-end-2 : goal.slice_bounds-put_folded-end-2
slice_bounds-put_folded-end-2 c = room_cut c.put_content_line-n.ensures c.requires.2

pub put_folded-requires : goal.put_folded-requires
put_folded-requires c = search writing

pub shape_of-out : goal.shape_of-out
shape_of-out c = search writing

pub shape_of-line : goal.shape_of-line
shape_of-line c = search writing

pub returns : goal.returns
returns c = folded_put c.put_content_line-n.ensures c.requires.2 c.put_folded.ensures
