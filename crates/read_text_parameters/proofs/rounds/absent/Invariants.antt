-- `read_text_parameters::absent` meets its contract. Assumes nothing.
use Prim.Native.Nat.{◌-◌, ◌≤◌}
use Rattle.read_text_parameters.specs.laws.Rounds.{Missing}
use Rattle.read_text_parameters.proofs.rounds.absent.Given as goal

abbrev pub invariant-loop-k : goal.invariant-loop-k
invariant-loop-k g l = Missing g.E.Encoding.encoding l.s l.places l.n l.from l.k l.c × (l.k ≤ l.left)

abbrev pub decreases-loop-k : goal.decreases-loop-k
decreases-loop-k g l = l.left - l.k
