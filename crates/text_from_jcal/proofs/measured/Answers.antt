-- `text_from_jcal::measured` meets its contract.
use Rattle.text_from_jcal.specs.laws.Steps.{fits_again}
use Rattle.calls.specs.laws.Answered.{done_written, done_room}
use Rattle.jcal.specs.Components.{read_calendars, calendars_in}
use Rattle.json_text.specs.Tree.{value_of}
use Rattle.text.specs.WriteText.{write_calendar}
use Rattle.sink.specs.laws.Sink.{writing}
use lib.ListN.{length}
use native.Mathlib.Omega.{arith}
use Prim.Native.Nat.{◌^◌, ◌<◌}
use borrow.Author.Rules.{rules}
use Rattle.text_from_jcal.proofs.measured.Goals as goal

pub slice_bounds-put_calendars-end : goal.slice_bounds-put_calendars-end
slice_bounds-put_calendars-end c = search writing

pub slice_bounds-put_calendars-end-2 : goal.slice_bounds-put_calendars-end-2
slice_bounds-put_calendars-end-2 c = search writing

pub put_calendars-need-requires : goal.put_calendars-need-requires
put_calendars-need-requires c = (c.requires.0, c.requires.1)

pub put_calendars-requires : goal.put_calendars-requires
put_calendars-requires c = (c.requires.0, fits_again c.args.edition _ _ _ c.put_calendars-need.auto.line c.requires.1)

pub shape_of-line-then-need-out : goal.shape_of-line-then-need-out
shape_of-line-then-need-out c = search writing

pub shape_of-out-then-need-out : goal.shape_of-out-then-need-out
shape_of-out-then-need-out c = search writing

pub returns-then-need-out : goal.returns-then-need-out
returns-then-need-out c = let k : length (write_calendar c.args.edition (read_calendars (calendars_in (value_of c.args.s.now)))) < 2 ^ 63 = omega (arith, c.requires.0, c.requires.2) in done_written k c.put_calendars-need.ensures.put (omega (arith, c.if-need-out.true)) c.put_calendars.ensures.put

pub shape_of-line : goal.shape_of-line
shape_of-line c = search writing

pub shape_of-out : goal.shape_of-out
shape_of-out c = search writing

pub returns : goal.returns
returns c = let k : length (write_calendar c.args.edition (read_calendars (calendars_in (value_of c.args.s.now)))) < 2 ^ 63 = omega (arith, c.requires.0, c.requires.2) in done_room k c.put_calendars-need.ensures.put (omega (arith, c.if-need-out.false))
