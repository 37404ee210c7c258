-- Folded bytes cut in two between two kept bytes: what is kept of both parts is what is kept of the whole.
--     skip_after s k n  how many bytes are still to be left out after n bytes of s, once k bytes are
--     Passed, Behind    folds passed over from an index on;   Behind: all of them
use Rattle.std.specs.Prelude.{◌≡◌, Bool, true, false, List, [], ◌∷◌, ℕ, zero, suc, ◌-◌, ◌≤◌, length, drop}
use Rattle.folding.specs.Unfold.{fold_at, kept_from}

abbrev pub skip_of : Bool → ℕ
skip_of true = 2
skip_of false = 0

unfoldable pub skip_after : List ℕ → ℕ → ℕ → ℕ
skip_after [] k n = k
skip_after (a ∷ s) k zero = k
skip_after (a ∷ s) zero (suc n) = skip_after s (skip_of (fold_at (a ∷ s))) n
skip_after (a ∷ s) (suc k) (suc n) = skip_after s k n

-- ---- folds passed over

-- from c on, up to n, some bytes are left out, and the rest is kept as it is from n on
pub record Passed (s : List ℕ) (c n : ℕ) : Type 0 where
  pub onward : c ≤ n
  pub inside : n ≤ length s
  pub whole : skip_after (drop c s) 0 (n - c) ≡ 0
  pub left : kept_from (drop c s) 0 ≡ kept_from (drop n s) 0

-- behind all folds that stand at c
pub record Behind (s : List ℕ) (c n : ℕ) : Type 0 where
  pub passed : Passed s c n
  pub stop : fold_at (drop n s) ≡ false
