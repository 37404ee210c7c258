-- Words compared with all words before them.
--     Apart w n i        the first i words are different from the word of the number n
--     Again w n r        whether the word of the number n is that of a number below n
use Rattle.std.specs.Prelude.{◌≡◌, Bool, true, false, List, [], ℕ, ◌<◌}
use Rattle.octets.specs.Words.{same}
use Rattle.octets.specs.Lists.{distinct}
use Rattle.distinct.specs.Listed.{listed}

pub record Apart (w : ℕ → List ℕ) (j i : ℕ) : Type 0 where
  pub are : (p : ℕ) → p < i → same (w p) (w j) ≡ false

pub record Again (w : ℕ → List ℕ) (j : ℕ) (r : Bool) : Type 0 where
  pub found : r ≡ true → (n : ℕ) → j < n → distinct (listed n w []) ≡ false
  pub apart : r ≡ false → Apart w j j
