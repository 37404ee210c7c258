-- FLOAT as the code reads and writes it.
--     Shaped            the contract of `read_shape`: digits, and digits after a point if there is one, from a cursor on
--     float_of          the number that is read: the digits at its first cursor, and those at its second without trailing zeros
use Rattle.std.specs.Prelude.{◌≡◌, Bool, List, ℕ, Option, option_map}
use Rattle.octets.specs.Words.{cut_at}
use Rattle.calendar.specs.Calendar.{Decimal}
use Rattle.numbers.specs.Float.{decimal, pointed, no_trailing}
use Rattle.numbers.specs.Until.{until}
use Rattle.numbers.specs.FloatParts.{front}
use Rattle.numbers.specs.declared.float.Float.{Float}

pub record Shaped (e m : ℕ) (s : List ℕ) (c : ℕ) (r : Option ℕ) : Type 0 where
  pub is : (n : Bool) → pointed n (cut_at 46 (until e m s c)) ≡ option_map (λ f. decimal n (front (until e m s c)) (until e m s f)) r

abbrev pub float_of : ℕ → ℕ → List ℕ → Float → Decimal
float_of e m s n = decimal n.negative (front (until e m s n.whole)) (no_trailing (until e m s n.fraction))
