-- `read_text_line::value::next_values` meets its contract.
use Prim.Native.Nat.{◌*◌, ◌-◌}
use lib.ListN.{length}
use Rattle.read_text_line.specs.ContentLine.{next_value}
use Rattle.read_text_line.specs.laws.Repeating.{Walk}
use Rattle.read_text_line.proofs.value.next_values.Given as goal

abbrev pub invariant-loop-v : goal.invariant-loop-v
invariant-loop-v g l = Walk next_value g.E.Encoding.encoding l.s l.at l.c

abbrev pub decreases-loop-v : goal.decreases-loop-v
decreases-loop-v g l = 4 * length l.s - l.c
