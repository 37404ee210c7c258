-- `write_text_jcal_values::type_of_values` meets its contract. Assumes nothing.
use Rattle.write_text_jcal_values.specs.laws.Property.{type_first, type_none, type_unread}
use Rattle.sink.specs.laws.Sink.{writing}
use Rattle.write_text_jcal_values.proofs.property.type_of_values.Goals as goal

pub written_type-t-requires : goal.written_type-t-requires
written_type-t-requires c = search writing

pub element_at-h-requires : goal.element_at-h-requires
element_at-h-requires c = search writing

pub is_there-there-requires : goal.is_there-there-requires
is_there-there-requires c = search writing

pub returns-then-there : goal.returns-then-there
returns-then-there c = type_first c.written_type-t.ensures c.args.s.now c.args.from c.element_at-h.ensures c.is_there-there.ensures c.if-read.true c.if-there.true

pub returns-else-there : goal.returns-else-there
returns-else-there c = type_none c.written_type-t.ensures c.args.s.now c.args.from c.element_at-h.ensures c.is_there-there.ensures c.if-read.true c.if-there.false

pub returns-else-read : goal.returns-else-read
returns-else-read c = type_unread c.written_type-t.ensures c.args.s.now c.args.from c.if-read.false
