-- A table of names is one byte string, each name ended by a line feed. The number of a name is its place in the table, from 0.
--     names_in t       the names of a table; bytes after the last line feed count for nothing
--     place_of w ws    the place of the word w in a list; the number of all words where it is not there
--     nth l k          the element at a place
use Rattle.std.specs.Prelude.{List, [], ◌∷◌, ℕ, zero, suc, eqb, Option, None, Some}
use Rattle.octets.specs.Pick.{pick}
use Rattle.octets.specs.Words.{same}

unfoldable pub place_of : List ℕ → List (List ℕ) → ℕ
place_of w [] = 0
place_of w (x ∷ ws) = pick (same w x) 0 (suc (place_of w ws))

-- a byte more at the front of the first name
abbrev pub in_first : ℕ → List (List ℕ) → List (List ℕ)
in_first t [] = []
in_first t (n ∷ ns) = (t ∷ n) ∷ ns

unfoldable pub names_in : List ℕ → List (List ℕ)
names_in [] = []
names_in (t ∷ ts) = pick (eqb t 10) ([] ∷ names_in ts) (in_first t (names_in ts))

-- ---- the row of a table by its name's place

unfoldable pub nth : {A : Type 0} → List A → ℕ → Option A
nth [] k = None
nth (a ∷ l) zero = Some a
nth (a ∷ l) (suc k) = nth l k
