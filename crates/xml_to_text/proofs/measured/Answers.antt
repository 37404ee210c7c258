-- `xml_to_text::measured` meets its contract.
use Prim.Native.Nat.{◌^◌, ◌<◌}
use native.Mathlib.Omega.{arith}
use borrow.Author.Rules.{rules}
use lib.ListN.{length}
use Rattle.sink.specs.laws.Sink.{writing}
use Rattle.xml.specs.NodesAt.{nodes_at}
use Rattle.text.specs.WriteText.{write_calendar}
use Rattle.xcal.specs.ComponentNodes.{read_calendars}
use Rattle.calls.specs.laws.Answered.{done_written, done_room}
use Rattle.xml_to_text.proofs.measured.Goals as goal

pub slice_bounds-put_calendar-end : goal.slice_bounds-put_calendar-end
slice_bounds-put_calendar-end c = search writing

pub slice_bounds-put_calendar-end-2 : goal.slice_bounds-put_calendar-end-2
slice_bounds-put_calendar-end-2 c = search writing

pub shape_of-line-then-need-out : goal.shape_of-line-then-need-out
shape_of-line-then-need-out c = search writing

pub shape_of-out-then-need-out : goal.shape_of-out-then-need-out
shape_of-out-then-need-out c = search writing

pub returns-then-need-out : goal.returns-then-need-out
returns-then-need-out c = let k : length (write_calendar c.args.edition (read_calendars (nodes_at c.args.s.now c.args.from))) < 2 ^ 63 = omega (arith, c.requires.0, c.requires.2) in done_written k c.put_calendar-need.ensures.put (omega arith) c.put_calendar.ensures.put

pub shape_of-line : goal.shape_of-line
shape_of-line c = search writing

pub shape_of-out : goal.shape_of-out
shape_of-out c = search writing

pub returns : goal.returns
returns c = let k : length (write_calendar c.args.edition (read_calendars (nodes_at c.args.s.now c.args.from))) < 2 ^ 63 = omega (arith, c.requires.0, c.requires.2) in done_room k c.put_calendar-need.ensures.put (omega arith)
