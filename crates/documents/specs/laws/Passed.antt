-- Content in which no document ends, whatever element or end tag follows it.
--     opens_tag s         s begins with `<`
--     data_in_front c     character data stands only at the front of an element's content: none follows an end tag
--     Passed a r          no document ends within a, which stands before r
use Rattle.std.specs.Prelude.{◌≡◌, Bool, true, false, List, [], ◌∷◌, ℕ, eqb, length}
use Rattle.octets.specs.Pick.{◌and◌}
use Rattle.octets.specs.Append.{◌⊕◌}
use Rattle.xml.specs.Content.{Content, nothing, child, char_data}
use Rattle.documents.specs.Log.{ahead, document_end}

unfoldable pub opens_tag : List ℕ → Bool
opens_tag [] = false
opens_tag (b ∷ s) = eqb 60 b

-- may: whether character data may stand here
unfoldable pub data_in_front : Content → Bool → Bool
data_in_front nothing may = true
data_in_front (child nm inner next) may = data_in_front inner true and data_in_front next false
data_in_front (char_data s next) may = may and data_in_front next may

abbrev pub Passed : List ℕ → List ℕ → Type 0
Passed a r = document_end (a ⊕ r) ≡ ahead (length a) (document_end r)
