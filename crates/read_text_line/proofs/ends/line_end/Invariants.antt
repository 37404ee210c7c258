-- `read_text_line::ends::line_end` meets its contract.
use Prim.Native.Nat.{◌*◌, ◌-◌}
use lib.ListN.{length}
use Rattle.read_text_line.specs.laws.LineEnd.{Seeking}
use Rattle.read_text_line.proofs.ends.line_end.Given as goal

abbrev pub invariant-loop-n : goal.invariant-loop-n
invariant-loop-n g l = Seeking g.E.Encoding.encoding l.s l.from l.c

abbrev pub decreases-loop-n : goal.decreases-loop-n
decreases-loop-n g l = 4 * length l.s - l.c
