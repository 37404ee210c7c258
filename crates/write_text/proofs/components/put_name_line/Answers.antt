-- `write_text::components::put_name_line` meets its contract.
use lib.Seq.{length-take-le}
use borrow.Author.Rules.{rules}
use Rattle.write_text.specs.laws.Room.{name_within, name_cut, name_folded}
use Rattle.write_text.proofs.components.put_name_line.Goals as goal

pub slice_bounds-put_upper-end : goal.slice_bounds-put_upper-end
slice_bounds-put_upper-end c = search (length-take-le, rules)

pub slice_bounds-put_folded-end : goal.slice_bounds-put_folded-end
slice_bounds-put_folded-end c = search (name_within, rules)

pub slice_bounds-put_folded-end-2 : goal.slice_bounds-put_folded-end-2
slice_bounds-put_folded-end-2 c = search (name_cut, rules)

pub returns : goal.returns
returns c = search (name_folded, rules)
