-- FLOAT in the parts that the code finds one after another.
--     front s         the digits at the front of s;   after_digits s: what follows them
use Rattle.std.specs.Prelude.{List, [], ◌∷◌, ℕ, eqb}
use Rattle.octets.specs.Pick.{pick}
use Rattle.octets.specs.Class.{is_digit}
use Rattle.octets.specs.Words.{cut_at}

unfoldable pub front : List ℕ → List ℕ
front [] = []
front (b ∷ s) = pick (is_digit b) (b ∷ front s) []

unfoldable pub after_digits : List ℕ → List ℕ
after_digits [] = []
after_digits (b ∷ s) = pick (is_digit b) (after_digits s) (b ∷ s)

-- ---- the pieces between points: the first, and those after it

unfoldable pub more_after : ℕ → List ℕ → List (List ℕ)
more_after c [] = []
more_after c (b ∷ s) = pick (eqb b c) (cut_at c s) (more_after c s)
