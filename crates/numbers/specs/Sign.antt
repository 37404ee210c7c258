-- The sign in front of a number (RFC 5545, sections 3.3.7 and 3.3.8): (["+"] / "-").
--     has_minus s    a minus stands at the front of s
--     after_sign s   s without the sign at its front, if it has one
--     minus_if m s   s with a minus in front if m says so; a plus is not written
--     is_digits s    1*DIGIT
--     leads_in_digit s  s begins with a digit
use Rattle.std.specs.Prelude.{Bool, false, List, [], ◌∷◌, ℕ, eqb, ltb, length}
use Rattle.octets.specs.Pick.{pick, ◌and◌, ◌or◌}
use Rattle.octets.specs.Scan.{all_of}
use Rattle.octets.specs.Class.{is_digit}

-- 45 is -, 43 is +
unfoldable pub has_minus : List ℕ → Bool
has_minus [] = false
has_minus (b ∷ s) = eqb b 45

unfoldable pub after_sign : List ℕ → List ℕ
after_sign [] = []
after_sign (b ∷ s) = pick (eqb b 45 or eqb b 43) s (b ∷ s)

abbrev pub minus_if : Bool → List ℕ → List ℕ
minus_if m s = pick m (45 ∷ s) s

abbrev pub is_digits : List ℕ → Bool
is_digits s = ltb 0 (length s) and all_of is_digit s

unfoldable pub leads_in_digit : List ℕ → Bool
leads_in_digit [] = false
leads_in_digit (b ∷ s) = is_digit b
