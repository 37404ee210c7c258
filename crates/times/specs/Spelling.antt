-- How dates and times are spelt: in iCalendar text without marks, their letters in any case; in XML with marks between the digits (RFC 6321, section 3.6:
-- 2024-05-04, 08:00:00), their letters in capitals.
--     is_time_char    a character of these values: a digit, a capital, plus or hyphen
--     keep            a spelling that passes a test is what is kept
--     begins          a given character, and then a rest that passes a test
--     Mark            a mark: its place in XML, and its character
--     with_marks      marks put into a spelling, the first one first
--     without_marks   marks taken out, each of which must stand in its place
--     fits            marks whose places are in a spelling of n characters
use Rattle.std.specs.Prelude.{Bool, true, false, List, [], ◌∷◌, ℕ, zero, suc, eqb, leb, Option, None, Some}
use Rattle.octets.specs.Pick.{◌and◌, ◌or◌}
use Rattle.octets.specs.Class.{is_digit, is_capital}
use Rattle.octets.specs.Reading.{provided, and_then, cons_read}

-- 43 is +, 45 is -
unfoldable pub is_time_char : ℕ → Bool
is_time_char b = is_digit b or is_capital b or eqb b 43 or eqb b 45

unfoldable pub keep : (List ℕ → Bool) → List ℕ → Option (List ℕ)
keep test s = provided (test s) s

unfoldable pub begins : ℕ → (List ℕ → Bool) → List ℕ → Bool
begins c rest [] = false
begins c rest (b ∷ s) = eqb b c and rest s

-- ---- marks

pub record Mark : Type 0 where
  pub place : ℕ
  pub sign : ℕ

abbrev pub mark : ℕ → ℕ → Mark
mark n c = record { place = n; sign = c }

unfoldable pub put_mark : ℕ → ℕ → List ℕ → List ℕ
put_mark zero c s = c ∷ s
put_mark (suc n) c [] = c ∷ []
put_mark (suc n) c (b ∷ s) = b ∷ put_mark n c s

unfoldable pub take_mark : ℕ → ℕ → List ℕ → Option (List ℕ)
take_mark zero c [] = None
take_mark zero c (b ∷ s) = provided (eqb b c) s
take_mark (suc n) c [] = None
take_mark (suc n) c (b ∷ s) = cons_read b (take_mark n c s)

unfoldable pub with_marks : List Mark → List ℕ → List ℕ
with_marks [] s = s
with_marks (m ∷ ms) s = with_marks ms (put_mark m.place m.sign s)

unfoldable pub without_marks : List Mark → List ℕ → Option (List ℕ)
without_marks [] s = Some s
without_marks (m ∷ ms) s = and_then (without_marks ms s) (take_mark m.place m.sign)

unfoldable pub fits : List Mark → ℕ → Bool
fits [] n = true
fits (m ∷ ms) n = leb m.place n and fits ms (suc n)
