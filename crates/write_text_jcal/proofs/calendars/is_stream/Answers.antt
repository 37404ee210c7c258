-- `write_text_jcal::is_stream` meets its contract. Assumes nothing.
use Rattle.write_text_jcal.specs.laws.Calendars.{stream_is}
use Rattle.sink.specs.laws.Sink.{writing}
use Rattle.write_text_jcal.proofs.calendars.is_stream.Goals as goal

pub element_at-h-requires : goal.element_at-h-requires
element_at-h-requires c = search writing

pub is_array-requires : goal.is_array-requires
is_array-requires c = search writing

pub returns : goal.returns
returns c = stream_is c.element_at-h.ensures c.is_array.ensures
