-- `xml_to_text::written_at_once` meets its contract.
use Prim.Native.Nat.{◌^◌, ◌≤◌, ◌<◌}
use native.Mathlib.Omega.{arith}
use lib.ListN.{length}
use borrow.Author.Rules.{rules}
use Rattle.xml.specs.NodesAt.{nodes_at}
use Rattle.text.specs.WriteText.{write_calendar}
use Rattle.xcal.specs.ComponentNodes.{read_calendars}
use Rattle.calls.specs.laws.Answered.{done_at_once}
use Rattle.xml_to_text.proofs.written_at_once.Goals as goal

pub returns : goal.returns
returns c = let k : length (write_calendar c.args.edition (read_calendars (nodes_at c.args.s.now c.args.from))) < 2 ^ 63 = omega (arith, c.requires.0, c.requires.2) in
    let f : length (write_calendar c.args.edition (read_calendars (nodes_at c.args.s.now c.args.from))) ≤ length c.args.out.now = omega (arith, c.requires.2, c.requires.3) in
    done_at_once k f c.put_calendar.ensures.put
