-- `schema::counts::half_often` meets its contract.
use Prim.Native.Nat.{◌-◌}
use Rattle.schema.specs.laws.Completing.{Testing}
use Rattle.schema.proofs.counts.half_often.Given as goal

abbrev pub invariant-loop-n : goal.invariant-loop-n
invariant-loop-n l = Testing l.rows l.from l.l l.t l.n

abbrev pub decreases-loop-n : goal.decreases-loop-n
decreases-loop-n l = 23 - l.n
