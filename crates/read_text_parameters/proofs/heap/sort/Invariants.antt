-- `read_text_parameters::sort` meets its contract. Assumes nothing.
use mathlib.Core.Path.{◌≡◌}
use Prim.Native.Nat.{◌≤◌}
use lib.ListN.{length}
use Rattle.read_text_parameters.proofs.heap.sort.Given as goal

abbrev pub invariant-loop-m : goal.invariant-loop-m
invariant-loop-m g l = (length l.places ≡ length l.initial.places) × (l.m ≤ l.n)

abbrev pub decreases-loop-m : goal.decreases-loop-m
decreases-loop-m g l = l.m
