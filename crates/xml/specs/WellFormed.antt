-- Whether a document is within the XML profile: each end tag has its start tag's name, at most 32 elements are open, there is one root, and only white space
-- after it (XML 1.0, section 2.1; the rules, "XML profile for reading").
--     xml_verdict s  fine, or XML and the place of the first fault from the left: the start of the tag, reference or character; the input's length where an
--                    element is still open or no root came
use Rattle.std.specs.Prelude.{Bool, true, false, not, List, [], ◌∷◌, ℕ, ltb, length}
use Rattle.octets.specs.Pick.{pick, ◌and◌}
use Rattle.octets.specs.Class.{is_space}
use Rattle.octets.specs.Words.{same, is_empty}
use Rattle.calendar.specs.Refusal.{XML, Verdict, fine, refuse}
use Rattle.xml.specs.Marks.{Mark, opens, closes, char, refers, fault, document_marks}

-- what a mark comes to: on with whether a root came and the names of the open elements, the innermost first; or a fault at a place
pub data Move : Type 0 where
  onward : Bool → List (List ℕ) → Move
  stop : ℕ → Move

-- an element may start: as the root, or inside with fewer than 32 open
unfoldable pub has_room : Bool → List (List ℕ) → Bool
has_room came st = pick (is_empty st) (not came) (ltb (length st) 32)

-- the end tag of the innermost open element
unfoldable pub closes_top : List ℕ → Bool → List (List ℕ) → ℕ → Move
closes_top nm came [] p = stop p
closes_top nm came (top ∷ st) p = pick (same top nm) (onward came st) (stop p)

unfoldable pub move : Mark → Bool → List (List ℕ) → Move
move (opens p nm) came st = pick (has_room came st) (onward true (nm ∷ st)) (stop p)
move (closes p nm) came st = closes_top nm came st p
move (char p b) came st = pick (is_empty st) (pick (is_space b) (onward came st) (stop p)) (onward came st)
move (refers p bs) came st = pick (is_empty st) (stop p) (onward came st)
move (fault p) came st = stop p

unfoldable pub followed : Move → (Bool → List (List ℕ) → Verdict) → Verdict
followed (onward came st) rest = rest came st
followed (stop p) rest = refuse XML p

-- the marks of an input of e bytes
unfoldable pub check : List Mark → ℕ → Bool → List (List ℕ) → Verdict
check [] e came st = pick (came and is_empty st) fine (refuse XML e)
check (m ∷ ms) e came st = followed (move m came st) (check ms e)

unfoldable pub xml_verdict : List ℕ → Verdict
xml_verdict s = check (document_marks s) (length s) false []
