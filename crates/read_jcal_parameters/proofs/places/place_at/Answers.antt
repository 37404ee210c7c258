-- `read_jcal_parameters::places::place_at` meets its contract.
use mathlib.Core.Path.{◌≡◌, refl}
use mathlib.Core.List.{List, [], ◌∷◌}
use Prim.Native.Nat.{ℕ, zero, suc, ◌≤◌}
use lib.ListN.{length, get_or}
use native.Mathlib.Omega.{arith}
use Rattle.read_jcal_parameters.proofs.places.place_at.Goals as goal

past : (l : List ℕ) (i : ℕ) → length l ≤ i → 0 ≡ get_or l i 0
past [] i h = refl
past (x ∷ l) zero h = absurd (omega arith)
past (x ∷ l) (suc i) h = past l i (omega arith)

pub returns : goal.returns
returns c = (past c.args.a.now c.args.i (omega arith), omega arith)
