-- `text_from_jcal::written_at_once` meets its contract.
use Rattle.calls.specs.laws.Answered.{done_at_once}
use Rattle.jcal.specs.Components.{read_calendars, calendars_in}
use Rattle.json_text.specs.Tree.{value_of}
use Rattle.text.specs.WriteText.{write_calendar}
use lib.ListN.{length}
use native.Mathlib.Omega.{arith}
use Prim.Native.Nat.{◌^◌, ◌≤◌, ◌<◌}
use borrow.Author.Rules.{rules}
use Rattle.text_from_jcal.proofs.written_at_once.Goals as goal

pub put_calendars-requires : goal.put_calendars-requires
put_calendars-requires c = (c.requires.0, c.requires.1)

pub returns : goal.returns
returns c = let k : length (write_calendar c.args.edition (read_calendars (calendars_in (value_of c.args.s.now)))) < 2 ^ 63 = omega (arith, c.requires.0, c.requires.2) in let f : length (write_calendar c.args.edition (read_calendars (calendars_in (value_of c.args.s.now)))) ≤ length c.args.out.now = omega (arith, c.requires.2, c.requires.3) in done_at_once k f c.put_calendars.ensures.put
