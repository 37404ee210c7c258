-- The items of a part of a rule (crate jcal, specs/Values.antt), by the part's number: its place in the schema's order.
--     is_numbered    an item of the part is a number
--     item_in        a JSON value is an item of the part
--     amounts        one item at least, and one only where the part has no list
--     part_in        a JSON value has the items of the part, in an array or alone
--     part_place     the number of the part of a name, which is in small letters; 14 of no part's name
use Rattle.std.specs.Prelude.{Bool, true, false, List, [], ◌∷◌, ℕ, get_or, Option, None, Some}
use Rattle.octets.specs.Pick.{pick}
use Rattle.octets.specs.Class.{upper, lower}
use Rattle.octets.specs.Words.{same, is_empty}
use Rattle.octets.specs.Reading.{and_then, is_read}
use Rattle.names.specs.Table.{place_of}
use Rattle.recur.specs.Parts.{ItemForm, word_of, enddate, counting, unsigned, signed, weekdaynum, Part, part_of, part_names}
use Rattle.json_text.specs.Tree.{Json}
use Rattle.json_text.specs.Kinds.{or_alone}
use Rattle.jcal.specs.Values.{read_item, read_items}

abbrev pub numbered : ItemForm → Bool
numbered (word_of ws) = false
numbered enddate = false
numbered counting = true
numbered (unsigned d lo hi) = true
numbered (signed d hi) = true
numbered weekdaynum = false

abbrev pub is_numbered : Option Part → Bool
is_numbered None = false
is_numbered (Some r) = numbered r.form

unfoldable pub item_in : ℕ → Json → Bool
item_in i v = is_read (and_then (part_of (get_or part_names i [])) (λ r. read_item r v))

abbrev pub amounts : Bool → List Json → Bool
amounts l [] = false
amounts l (v ∷ vs) = pick l true (is_empty vs)

unfoldable pub items_in : ℕ → List Json → Bool
items_in i vs = is_read (and_then (part_of (get_or part_names i [])) (λ r. read_items r vs))

unfoldable pub part_in : ℕ → Json → Bool
part_in i v = items_in i (or_alone v)

unfoldable pub part_place : List ℕ → ℕ
part_place n = pick (same n (lower n)) (place_of (upper n) part_names) 14
