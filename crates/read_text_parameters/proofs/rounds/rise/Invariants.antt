-- `read_text_parameters::rise` meets its contract. Assumes nothing.
use Prim.Native.Nat.{◌+◌, ◌-◌, ◌^◌, ◌<◌}
use Rattle.distinct.specs.Rising.{Rising}
use Rattle.read_text_parameters.specs.Naming.{name_at}
use Rattle.read_text_parameters.proofs.rounds.rise.Given as goal

abbrev pub invariant-loop-i : goal.invariant-loop-i
invariant-loop-i g l = Rising (name_at g.E.Encoding.encoding l.s) l.places (l.i + 1) × (l.i < 2 ^ 64 - 1)

abbrev pub decreases-loop-i : goal.decreases-loop-i
decreases-loop-i g l = l.n - l.i
