-- FLOAT (RFC 5545, section 3.3.7; RFC 6321, section 3.6.7), the same in text and in XML, exact at any number of digits: float = (["+"] / "-") 1*DIGIT ["." 1*DIGIT]
--     spelled s      the sign and the digits of s as they stand
--     normal d       the normal form: no zeros that lead before the point or trail after it, and zero is not negative
--     read_float, write_float
--     is_normal      what a FLOAT is kept as
use Rattle.std.specs.Prelude.{Bool, false, not, List, [], ◌∷◌, ℕ, eqb, Option, None, Some}
use Rattle.octets.specs.Pick.{pick, ◌and◌}
use Rattle.octets.specs.Scan.{all_of}
use Rattle.octets.specs.Append.{◌⊕◌}
use Rattle.octets.specs.Class.{is_digit}
use Rattle.octets.specs.Words.{is_empty, cut_at}
use Rattle.octets.specs.Reading.{provided, and_then}
use Rattle.calendar.specs.Calendar.{Decimal}
use Rattle.numbers.specs.Sign.{has_minus, after_sign, minus_if, is_digits}

abbrev pub decimal : Bool → List ℕ → List ℕ → Decimal
decimal m b a = record { minus = m; before = b; after = a }

-- ["." 1*DIGIT]: the digits after the point, from the pieces that follow the first point (46 is .)
unfoldable pub fraction : List (List ℕ) → Option (List ℕ)
fraction [] = Some []
fraction (a ∷ ps) = provided (is_digits a and is_empty ps) a

-- 1*DIGIT ["." 1*DIGIT], from the pieces between points
unfoldable pub pointed : Bool → List (List ℕ) → Option Decimal
pointed m [] = None
pointed m (b ∷ ps) = pick (is_digits b) (and_then (fraction ps) (λ a. Some (decimal m b a))) None

abbrev pub spelled : List ℕ → Option Decimal
spelled s = pointed (has_minus s) (cut_at 46 (after_sign s))

-- ---- the normal form; 48 is 0

unfoldable pub no_leading : List ℕ → List ℕ
no_leading [] = []
no_leading (b ∷ s) = pick (eqb b 48) (no_leading s) (b ∷ s)

-- a digit in front of digits that have no trailing zeros
unfoldable pub kept : ℕ → List ℕ → List ℕ
kept b [] = pick (eqb b 48) [] (b ∷ [])
kept b (c ∷ s) = b ∷ c ∷ s

unfoldable pub no_trailing : List ℕ → List ℕ
no_trailing [] = []
no_trailing (b ∷ s) = kept b (no_trailing s)

abbrev pub normal : Decimal → Decimal
normal d = decimal (not (is_empty (no_leading d.before) and is_empty (no_trailing d.after)) and d.minus) (no_leading d.before) (no_trailing d.after)

abbrev pub read_float : List ℕ → Option Decimal
read_float s = and_then (spelled s) (λ d. Some (normal d))

-- ---- writing: 37.5, 0.5, 0

unfoldable pub or_zero : List ℕ → List ℕ
or_zero [] = 48 ∷ []
or_zero (b ∷ s) = b ∷ s

unfoldable pub after_point : List ℕ → List ℕ
after_point [] = []
after_point (b ∷ s) = 46 ∷ b ∷ s

abbrev pub write_float : Decimal → List ℕ
write_float d = minus_if d.minus (or_zero d.before ⊕ after_point d.after)

-- ---- what is in normal form

unfoldable pub leads_in_zero : List ℕ → Bool
leads_in_zero [] = false
leads_in_zero (b ∷ s) = eqb b 48

unfoldable pub ends_in_zero : List ℕ → Bool
ends_in_zero [] = false
ends_in_zero (b ∷ s) = pick (is_empty s) (eqb b 48) (ends_in_zero s)

abbrev pub is_zero : Decimal → Bool
is_zero d = is_empty d.before and is_empty d.after

abbrev pub is_normal : Decimal → Bool
is_normal d = all_of is_digit d.before and all_of is_digit d.after and not (leads_in_zero d.before) and not (ends_in_zero d.after) and not (is_zero d and d.minus)
