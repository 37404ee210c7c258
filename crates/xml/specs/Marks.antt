-- A document as the list of its marks, each with its place, by one pass from the left.
--     Mark            what a token says: an element opens or closes, a character's byte, a reference's character in UTF-8; `fault`, the last mark, is where the
--                     bytes are no token. An empty tag opens and closes at one place
--     marks p s       the marks of bytes that stand at the place p, in the content of an element or after the root
--     document_marks  the marks of a document: of its root's tag and of what follows
use Rattle.std.specs.Prelude.{List, [], ◌∷◌, ℕ, zero, suc, ◌+◌}
use Rattle.utf8.specs.Spell.{spell}
use Rattle.xml.specs.Pieces.{from}
use Rattle.xml.specs.Token.{Token, s_tag, empty_elem_tag, e_tag, char_byte, reference_to, no_token, token, root_tag}
use Rattle.xml.specs.Prolog.{prolog}

pub data Mark : Type 0 where
  opens : ℕ → List ℕ → Mark  -- the place of a start tag, the element's name
  closes : ℕ → List ℕ → Mark  -- the place of an end tag, its name
  char : ℕ → ℕ → Mark  -- the place of a literal byte, the byte that it is read as
  refers : ℕ → List ℕ → Mark  -- the place of a reference, its character in UTF-8
  fault : ℕ → Mark

-- the marks of a token at the place p, before those of what follows; `rest k` are the marks after k bytes more
unfoldable pub marks_by : Token → ℕ → (ℕ → List Mark) → List Mark
marks_by (s_tag nm k) p rest = opens p nm ∷ rest k
marks_by (empty_elem_tag nm k) p rest = opens p nm ∷ closes p nm ∷ rest k
marks_by (e_tag nm k) p rest = closes p nm ∷ rest k
marks_by (char_byte b k) p rest = char p b ∷ rest k
marks_by (reference_to v k) p rest = refers p (spell v) ∷ rest k
marks_by no_token p rest = fault p ∷ []

-- with k bytes to be passed over, which belong to a token before
unfoldable pub scan : List ℕ → ℕ → ℕ → List Mark
scan [] p k = []
scan (b ∷ s) p zero = marks_by (token b s) p (scan s (p + 1))
scan (b ∷ s) p (suc k) = scan s (p + 1) k

abbrev pub marks : ℕ → List ℕ → List Mark
marks p s = scan s p 0

-- from where the root's tag has to stand
unfoldable pub root_marks : ℕ → List ℕ → List Mark
root_marks p [] = []
root_marks p (b ∷ s) = marks_by (root_tag b s) p (scan s (p + 1))

unfoldable pub document_marks : List ℕ → List Mark
document_marks s = root_marks (prolog s) (from (prolog s) s)
