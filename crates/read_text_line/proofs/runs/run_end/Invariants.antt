-- `read_text_line::runs::run_end` meets its contract.
use Prim.Native.Nat.{◌*◌, ◌-◌}
use lib.ListN.{length}
use Rattle.read_text_line.specs.Cursor.{char_of}
use Rattle.read_text_line.specs.laws.Cursor.{Passing}
use Rattle.read_text_line.proofs.runs.run_end.Given as goal

abbrev pub invariant-loop-c : goal.invariant-loop-c
invariant-loop-c g l = Passing (char_of l.k) g.E.Encoding.encoding l.s l.at l.c

abbrev pub decreases-loop-c : goal.decreases-loop-c
decreases-loop-c g l = 4 * length l.s - l.c
