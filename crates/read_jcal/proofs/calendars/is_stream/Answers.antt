-- `read_jcal::is_stream` meets its contract.
use Rattle.read_jcal.specs.laws.Calendars.{streams}
use Rattle.read_jcal.proofs.calendars.is_stream.Goals as goal

pub returns-then-is_array : goal.returns-then-is_array
returns-then-is_array c = search streams

pub returns-else-is_array : goal.returns-else-is_array
returns-else-is_array c = search streams
