-- `write_text_jcal_values::put_coordinate` meets its contract. Assumes nothing.
use Rattle.write_text_jcal_values.specs.laws.Own.{coordinate_put}
use borrow.Author.Rules.{rules}
use lib.Seq.{length-take-le}
use Rattle.sink.specs.laws.Sink.{writing}
use Rattle.write_text_jcal_values.proofs.own.put_coordinate.Goals as goal

pub element_at-h-requires : goal.element_at-h-requires
element_at-h-requires c = search writing

pub slice_bounds-put_float-end : goal.slice_bounds-put_float-end
slice_bounds-put_float-end c = search (length-take-le, rules)

pub put_float-requires : goal.put_float-requires
put_float-requires c = search writing

pub shape_of-out : goal.shape_of-out
shape_of-out c = search writing

pub returns : goal.returns
returns c = coordinate_put c.element_at-h.ensures c.put_float.ensures
