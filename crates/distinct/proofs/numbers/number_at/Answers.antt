-- `distinct::number_at` meets its contract.
use mathlib.Core.Path.{◌≡◌, refl}
use lib.ListN.{length, get_or}
use mathlib.Core.List.{List, [], ◌∷◌}
use Prim.Native.Nat.{ℕ, zero, suc, ◌≤◌}
use native.Mathlib.Omega.{arith}
use borrow.Author.Rules.{rules}
use Rattle.distinct.proofs.numbers.number_at.Goals as goal

past : (l : List ℕ) (i : ℕ) → length l ≤ i → 0 ≡ get_or l i 0
past [] i h = refl
past (x ∷ l) zero h = absurd (omega arith)
past (x ∷ l) (suc i) h = past l i (omega arith)

pub returns-else-i-a : goal.returns-else-i-a
returns-else-i-a c = past c.args.a.now c.args.i (omega arith)
