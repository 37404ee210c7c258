-- `schema::table::row_in` meets its contract.
use mathlib.Core.Path.{◌≡◌}
use Prim.Native.Nat.{ℕ, ◌+◌, ◌-◌, ◌/◌, ◌<◌, ◌≤◌}
use native.Mathlib.Omega.{arith}
use lib.ListN.{length}
use Rattle.schema.specs.Computing.{schema_compute}
use Rattle.schema.specs.Coded.{columns, coded}
use Rattle.schema.specs.Properties.{unrecognised_property}
use Rattle.schema.specs.laws.Halving.{below_more, below_less, below_within, found_hit, found_miss, found_end}
use Rattle.schema.proofs.table.row_in.Goals as goal

-- the middle is an entry
within : (first end n : ℕ) → first < end → end ≤ 23 → n ≡ 23 → first + (end - first) / 2 < n
within first end n l h e = omega arith

pub loop-first-init : goal.loop-first-init
loop-first-init c = (omega arith, omega (arith, below_within c.args.key c.args.rows), omega arith)

pub loop-first-preserved-then-rows-middle : goal.loop-first-preserved-then-rows-middle
loop-first-preserved-then-rows-middle c = let q = below_more _ _ _ _ c.requires.0 (within _ _ _ c.loop-first-test.true c.loop-first.invariant.2 (omega arith)) c.if-rows-middle.true in
    (omega (arith, q), c.loop-first.invariant.1, c.loop-first.invariant.2)

pub loop-first-preserved : goal.loop-first-preserved
loop-first-preserved c = let m = within _ _ (length c.args.rows) c.loop-first-test.true c.loop-first.invariant.2 (omega arith) in
    (c.loop-first.invariant.0, below_less _ _ _ _ m c.if-rows-middle.false, omega arith)

pub returns-then-low-e : goal.returns-then-low-e
returns-then-low-e c = found_hit _ _ _ _ _ _ _ _ (omega arith) (omega arith) c.if-low-e.true

pub returns-then-first-lt-HALF : goal.returns-then-first-lt-HALF
unfolding schema_compute columns
returns-then-first-lt-HALF c = found_miss _ _ _ _ _ _ _ _ (omega arith) (omega arith) c.if-low-e.false

pub returns : goal.returns
unfolding schema_compute columns
returns c = found_end _ _ _ _ _ _ (coded unrecognised_property) c.loop-first.first (omega arith) (omega arith)
