-- `schema::table::row_in` meets its contract.
use Prim.Native.Nat.{◌-◌, ◌≤◌}
use Rattle.schema.specs.Halving.{below}
use Rattle.schema.proofs.table.row_in.Given as goal

abbrev pub invariant-loop-first : goal.invariant-loop-first
invariant-loop-first l = (l.first ≤ below l.key l.rows) × (below l.key l.rows ≤ l.end) × (l.end ≤ 23)

abbrev pub decreases-loop-first : goal.decreases-loop-first
decreases-loop-first l = l.end - l.first
