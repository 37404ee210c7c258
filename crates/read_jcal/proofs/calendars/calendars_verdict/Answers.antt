-- `read_jcal::calendars_verdict` meets its contract.
use Rattle.read_jcal.specs.laws.Calendars.{calendars}
use Rattle.read_jcal.proofs.calendars.calendars_verdict.Goals as goal

pub returns-then-is_stream : goal.returns-then-is_stream
returns-then-is_stream c = search calendars

pub returns : goal.returns
returns c = search calendars
