-- A spelling followed along a pattern: in the pattern a 0 stands for any digit, a + for a plus or a hyphen, and any other character for itself.
-- The marks that XML puts into a spelling are put into the pattern in the same way, so a reader knows two patterns and no marks.
--     along p n s      the number of the digits passed after a number n, and what is left of s; or lost
use Rattle.std.specs.Prelude.{Bool, true, false, List, [], ◌∷◌, ℕ, zero, suc, ◌+◌, ◌*◌, eqb, leb, length, take, Option, None, Some}
use Rattle.octets.specs.Pick.{pick, ◌and◌, ◌or◌}
use Rattle.octets.specs.Scan.{all_of}
use Rattle.octets.specs.Class.{is_digit}
use Rattle.octets.specs.Decimal.{digit_of}
use Rattle.times.specs.Spelling.{Mark}

pub data Followed : Type 0 where
  reached : ℕ → List ℕ → Followed
  lost : Followed

-- the character c of a pattern passes b;   48 is 0, 43 is +, 45 is -
unfoldable pub passes : ℕ → ℕ → Bool
passes c b = pick (eqb c 48) (is_digit b) (pick (eqb c 43) (eqb b 43 or eqb b 45) (eqb b c))

-- digits are counted
unfoldable pub tally : ℕ → ℕ → ℕ → ℕ
tally c n b = pick (eqb c 48) (n * 10 + digit_of b) n

unfoldable pub along : List ℕ → ℕ → List ℕ → Followed
along [] n s = reached n s
along (c ∷ p) n [] = lost
along (c ∷ p) n (b ∷ s) = pick (passes c b) (along p (tally c n b) s) lost

-- ---- marks

unfoldable pub followed_by : Option (List ℕ) → (List ℕ → Followed) → Followed
followed_by None f = lost
followed_by (Some s) f = f s

-- a mark, which is no placeholder, passes itself
unfoldable pub is_mark : ℕ → Bool
is_mark c = pick (eqb c 48) false (pick (eqb c 43) false true)

unfoldable pub are_marks : List Mark → Bool
are_marks [] = true
are_marks (m ∷ ms) = is_mark m.sign and are_marks ms

-- ---- digits at the front

unfoldable pub zeros : ℕ → List ℕ → List ℕ
zeros zero p = p
zeros (suc k) p = 48 ∷ zeros k p

-- the first k characters of v are digits
unfoldable pub digits_at : ℕ → List ℕ → Bool
digits_at k v = leb k (length v) and all_of is_digit (take k v)
