-- The object of a rule, as the code writes it from its text, piece by piece (RFC 7265, section 3.6.10).
--     item_shown n w      an item w of the part n: a number as it stands, all else as a string
--     items_shown n ws    its items: one alone, or an array
--     piece_shown n w     the member of the piece w, NAME=ITEMS, of the part n
--     named_shown ns ws   the members of the pieces that have these names, in the order of the names
use Rattle.std.specs.Prelude.{Bool, true, false, List, [], ◌∷◌, map, ℕ, Option, None, Some, option_map}
use Rattle.octets.specs.Ascii.{ascii}
use Rattle.octets.specs.Pick.{pick}
use Rattle.octets.specs.Append.{◌⊕◌}
use Rattle.octets.specs.Class.{lower}
use Rattle.octets.specs.Words.{row_of}
use Rattle.octets.specs.Front.{past}
use Rattle.calendar.specs.Calendar.{ical, xcal}
use Rattle.recur.specs.Parts.{ItemForm, word_of, enddate, counting, unsigned, signed, weekdaynum, Part, part_of}
use Rattle.recur.specs.Shown.{shown_at}
use Rattle.recur.specs.Rule.{is_equals, items_of}
use Rattle.recur.specs.Pieces.{piece_name}
use Rattle.json_text.specs.Write.{member_of}
use Rattle.jcal.specs.WriteJcal.{one_or_array}

abbrev pub is_numbers : ItemForm → Bool
is_numbers (word_of ws) = false
is_numbers enddate = false
is_numbers counting = true
is_numbers (unsigned d lo hi) = true
is_numbers (signed d hi) = true
is_numbers weekdaynum = false

abbrev pub has_numbers : Option Part → Bool
has_numbers None = false
has_numbers (Some r) = is_numbers r.form

-- characters that have no escape: as they stand, or as a string
abbrev pub plain_json : Bool → List ℕ → List ℕ
plain_json bare s = pick bare s (ascii "\"" ⊕ s ⊕ ascii "\"")

abbrev pub item_shown : List ℕ → List ℕ → List ℕ
item_shown n w = plain_json (has_numbers (part_of n)) (shown_at xcal ical (part_of n) w)

unfoldable pub items_shown : List ℕ → List (List ℕ) → List ℕ
items_shown n ws = one_or_array (map (item_shown n) ws)

unfoldable pub piece_shown : List ℕ → List ℕ → List ℕ
piece_shown n w = member_of (lower n) (items_shown n (items_of n (past is_equals w)))

abbrev pub with_member : Option (List ℕ) → List (List ℕ) → List (List ℕ)
with_member None l = l
with_member (Some m) l = m ∷ l

unfoldable pub named_shown : List (List ℕ) → List (List ℕ) → List (List ℕ)
named_shown [] ws = []
named_shown (n ∷ ns) ws = with_member (option_map (piece_shown n) (row_of piece_name n ws)) (named_shown ns ws)
