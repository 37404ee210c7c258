-- `write_text_jcal_values::put_values` meets its contract. Assumes nothing.
use Rattle.write_text_jcal_values.specs.laws.Property.{values_put, values_unread}
use Rattle.sink.specs.laws.Sink.{writing}
use Rattle.write_text_jcal_values.proofs.property.put_values.Goals as goal

pub written_type-t-requires : goal.written_type-t-requires
written_type-t-requires c = search writing

pub put_each-requires : goal.put_each-requires
put_each-requires c = (c.requires.0, c.written_type-t.ensures.1)

pub shape_of-out-then-read : goal.shape_of-out-then-read
shape_of-out-then-read c = search writing

pub returns-then-read : goal.returns-then-read
returns-then-read c = values_put c.written_type-t.ensures c.args.s.now c.args.from c.if-read.true c.put_each.ensures

pub returns : goal.returns
returns c = values_unread c.written_type-t.ensures c.args.s.now c.args.from c.if-read.false (search writing)
