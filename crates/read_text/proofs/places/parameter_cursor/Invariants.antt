-- `read_text::parameter_cursor` meets its contract.
use Prim.Native.Nat.{◌<◌}
use lib.ListN.{length}
use Rattle.read_text_line.specs.Cursor.{params_at}
use Rattle.read_text.specs.laws.Places.{Passing}
use Rattle.read_text.proofs.places.parameter_cursor.Given as goal

abbrev pub invariant-loop-left : goal.invariant-loop-left
invariant-loop-left g l = (l.i < length (params_at g.E.Encoding.encoding l.s l.e) → Passing g.E.Encoding.encoding l.s l.e l.i l.c l.left)

abbrev pub decreases-loop-left : goal.decreases-loop-left
decreases-loop-left g l = l.left
