-- `read_text_parameters::compare_names` meets its contract. Assumes nothing.
use mathlib.Core.Path.{◌≡◌}
use Prim.Native.Nat.{◌*◌, ◌-◌}
use lib.ListN.{length}
use Rattle.distinct.specs.Order.{order}
use Rattle.read_text_parameters.specs.Naming.{name_at}
use Rattle.read_text_parameters.proofs.order.compare_names.Given as goal

abbrev pub invariant-loop-x : goal.invariant-loop-x
invariant-loop-x g l = order (name_at g.E.Encoding.encoding l.s l.a) (name_at g.E.Encoding.encoding l.s l.b) ≡ order (name_at g.E.Encoding.encoding l.s l.c) (name_at g.E.Encoding.encoding l.s l.d)

abbrev pub decreases-loop-x : goal.decreases-loop-x
decreases-loop-x g l = 4 * length l.s - l.c
