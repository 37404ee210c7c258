-- Digits walked one by one, with a cap: a number that is more than it, or that leaves something out, is the cap, and stays it.
--     next_worth cap k v b   digits that are worth v, and b behind them, where k more are kept: b counts, or else it must be a zero
--     worth_of cap s k v     the same with all of s behind them
--     DigitWorth, Worth      the contracts of `digit_worth` and `digits_worth`
use Rattle.std.specs.Prelude.{◌≡◌, List, [], ◌∷◌, ℕ, ◌+◌, ◌-◌, ◌*◌, ◌≤◌, ◌<◌, min, eqb}
use Rattle.octets.specs.Pick.{pick}
use Rattle.octets.specs.Decimal.{digit_of}
use Rattle.json_text.specs.Bytes.{digit_zero}

unfoldable pub next_worth : ℕ → ℕ → ℕ → ℕ → ℕ
next_worth cap k v b = pick (eqb k 0) (pick (eqb b digit_zero) v cap) (min cap (v * 10 + digit_of b))

unfoldable pub worth_of : ℕ → List ℕ → ℕ → ℕ → ℕ
worth_of cap [] k v = v
worth_of cap (b ∷ s) k v = worth_of cap s (k - 1) (next_worth cap k v b)

-- ---- for code

pub record DigitWorth (u r : ℕ) : Type 0 where
  pub is : r ≡ digit_of u
  pub small : r < 10

pub record Worth (cap : ℕ) (s : List ℕ) (k v r : ℕ) : Type 0 where
  pub is : r ≡ worth_of cap s k v
  pub low : r ≤ cap
