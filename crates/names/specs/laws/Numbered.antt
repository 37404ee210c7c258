-- Names by their numbers, as code knows them in and behind the arms of a `match` on the number.
--     at_number    what is written in the arm of the number k
--     beyond       behind the arms of all numbers below n;   beyond_from: behind those of n numbers from m on;   last_one: behind those of all but the last
use Rattle.std.specs.Prelude.{◌≡◌, List, [], ◌∷◌, ℕ, zero, suc, ◌+◌, ◌≤◌}
use Rattle.std.proofs.Common.{arith}
use Rattle.sink.specs.Sink.{Put}

-- k is none of the numbers, as code knows it behind the arms of a `match`: the last arm's number stands first
abbrev pub Missed : ℕ → List ℕ → Type 0
Missed k [] = Unit {0}
Missed k (n ∷ ns) = Missed k ns × (k ≡ n → ⊥)

pub at_number : {d e : List ℕ} {o r : ℕ} (name : ℕ → List ℕ) (k : ℕ) {n : ℕ} → n ≡ k → Put d e o r (name k) → Put d e o r (name n)
at_number name k h w = rw h w

-- the numbers below n, the last first
abbrev below : ℕ → List ℕ
below zero = []
below (suc n) = n ∷ below n

pub beyond : (n : ℕ) {k : ℕ} → Missed k (below n) → n ≤ k
beyond zero m = omega arith
beyond (suc n) m = omega (arith, beyond n m.0, m.1)

-- the last of the numbers up to n
pub last_one : (n : ℕ) {k : ℕ} → Missed k (below n) → k ≤ n → k ≡ n
last_one n m h = omega (arith, beyond n m)

-- the numbers from m on, n of them, the last first
abbrev upward : ℕ → ℕ → List ℕ
upward m zero = []
upward m (suc n) = (m + n) ∷ upward m n

pub beyond_from : (m n : ℕ) {k : ℕ} → Missed k (upward m n) → m ≤ k → m + n ≤ k
beyond_from m zero w h = omega arith
beyond_from m (suc n) w h = omega (arith, beyond_from m n w.0 h, w.1)
