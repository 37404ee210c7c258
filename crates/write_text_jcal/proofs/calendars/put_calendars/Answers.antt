-- `write_text_jcal::put_calendars` meets its contract. Assumes nothing.
use Rattle.write_text_jcal.specs.laws.Calendars.{fits_stream, fits_alone, calendars_stream, calendars_alone}
use Rattle.sink.specs.laws.Sink.{writing}
use Rattle.write_text_jcal.proofs.calendars.put_calendars.Goals as goal

pub array_at-inside-requires : goal.array_at-inside-requires
array_at-inside-requires c = search writing

pub is_stream-stream-requires : goal.is_stream-stream-requires
is_stream-stream-requires c = search writing

pub put_components-requires : goal.put_components-requires
put_components-requires c = (c.requires.0, fits_stream c.args.s.now _ c.array_at-inside.ensures c.is_stream-stream.ensures c.args.edition _ c.if-stream.true c.requires.1)

pub shape_of-out-then-stream : goal.shape_of-out-then-stream
shape_of-out-then-stream c = search writing

pub shape_of-line-then-stream : goal.shape_of-line-then-stream
shape_of-line-then-stream c = search writing

pub returns-then-stream : goal.returns-then-stream
returns-then-stream c = calendars_stream c.args.s.now _ c.array_at-inside.ensures c.is_stream-stream.ensures c.args.edition _ c.if-stream.true c.put_components.ensures

pub put_alone-requires : goal.put_alone-requires
put_alone-requires c = (c.requires.0, fits_alone c.args.s.now _ c.array_at-inside.ensures c.is_stream-stream.ensures c.args.edition _ c.if-stream.false c.requires.1)

pub shape_of-out : goal.shape_of-out
shape_of-out c = search writing

pub shape_of-line : goal.shape_of-line
shape_of-line c = search writing

pub returns : goal.returns
returns c = calendars_alone c.args.s.now _ c.array_at-inside.ensures c.is_stream-stream.ensures c.args.edition _ c.if-stream.false c.put_alone.ensures
