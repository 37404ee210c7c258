-- `write_text::properties::put_property_line` meets its contract.
use borrow.Author.Rules.{rules}
use Rattle.write_text_pieces.specs.laws.Room.{room_within, room_cut, folded_put}
use Rattle.write_text.proofs.properties.put_property_line.Goals as goal

pub slice_bounds-put_folded-end : goal.slice_bounds-put_folded-end
slice_bounds-put_folded-end c = search (room_within, rules)

pub slice_bounds-put_folded-end-2 : goal.slice_bounds-put_folded-end-2
slice_bounds-put_folded-end-2 c = search (room_cut, rules)

pub returns : goal.returns
returns c = search (folded_put, rules)
