-- A folded content line, written one line at a time.
--     row          a line as it is written: a space in front if it goes on with the one before
--     Takes        the contract of looking for a line's last octet
--     spaced       what is written of a content line once a line has ended
use Rattle.std.specs.Prelude.{◌≡◌, Bool, List, [], ◌∷◌, ℕ, ◌+◌, ◌≤◌, length, drop}
use Rattle.octets.specs.Pick.{pick}
use Rattle.octets.specs.Append.{◌⊕◌}
use Rattle.folding.specs.Unfold.{crlf}
use Rattle.folding.specs.Fold.{fold_from, taken}

abbrev pub row : Bool → List ℕ → List ℕ
row more l = pick more (32 ∷ []) [] ⊕ l ⊕ crlf

-- a line that has c octets takes those of s from i up to r
pub record Takes (c : ℕ) (s : List ℕ) (i r : ℕ) : Type 0 where
  pub is : r ≡ i + taken c (drop i s)
  pub high : r ≤ length s

-- the rest s of a content line, once a line has ended
unfoldable pub spaced : List ℕ → List ℕ
spaced [] = []
spaced (b ∷ s) = 32 ∷ fold_from 1 (b ∷ s)
