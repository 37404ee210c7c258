-- The elements of a rule, as the code writes them from its text, piece by piece (RFC 6321, section 3.6.10).
--     item_xml n w        the element of an item w of the part n
--     piece_xml n w       the elements of the piece w, NAME=ITEMS, of the part n
--     named_xml ns ws     those of the pieces that have these names, in the order of the names
use Rattle.std.specs.Prelude.{List, [], ◌∷◌, ℕ}
use Rattle.octets.specs.Append.{◌⊕◌}
use Rattle.octets.specs.Class.{lower}
use Rattle.octets.specs.Words.{row_of}
use Rattle.octets.specs.Reading.{or_nothing}
use Rattle.octets.specs.Front.{past}
use Rattle.calendar.specs.Calendar.{ical, xcal}
use Rattle.recur.specs.Parts.{part_of}
use Rattle.recur.specs.Shown.{shown_at}
use Rattle.recur.specs.Rule.{is_equals, items_of}
use Rattle.recur.specs.Pieces.{piece_name}
use Rattle.xml.specs.Escape.{element_of}

abbrev pub item_xml : List ℕ → List ℕ → List ℕ
item_xml n w = element_of (lower n) (shown_at xcal ical (part_of n) w)

unfoldable pub each_xml : List ℕ → List (List ℕ) → List ℕ
each_xml n [] = []
each_xml n (w ∷ ws) = item_xml n w ⊕ each_xml n ws

unfoldable pub piece_xml : List ℕ → List ℕ → List ℕ
piece_xml n w = each_xml n (items_of n (past is_equals w))

unfoldable pub named_xml : List (List ℕ) → List (List ℕ) → List ℕ
named_xml [] ws = []
named_xml (n ∷ ns) ws = or_nothing (piece_xml n) (row_of piece_name n ws) ⊕ named_xml ns ws
