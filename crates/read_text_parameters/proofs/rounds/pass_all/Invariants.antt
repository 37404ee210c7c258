-- `read_text_parameters::pass_all` meets its contract. Assumes nothing.
use mathlib.Core.Path.{◌≡◌}
use Prim.Native.Nat.{◌+◌, ◌≤◌}
use lib.ListN.{length}
use Rattle.read_text_parameters.specs.Rounds.{Passed}
use Rattle.read_text_parameters.proofs.rounds.pass_all.Given as goal

abbrev pub invariant-loop-left : goal.invariant-loop-left
invariant-loop-left g l = Passed g.E.Encoding.encoding l.s l.e l.k l.c l.left × (l.k + l.left ≤ 65536) × (length l.places ≡ length l.initial.places)

abbrev pub decreases-loop-left : goal.decreases-loop-left
decreases-loop-left g l = l.left
