-- A whole rule in text (RFC 5545, section 3.3.10): recur = recur-rule-part *( ";" recur-rule-part ), each NAME=ITEMS, list items parted by commas.
-- The parts stand in any order in text, each once; they are kept and written in the schema's order.
--     read_rule    the parts of a rule, in the schema's order
--     write_rule   the text of a rule
--     is_rule      parts that are a rule
use Rattle.std.specs.Prelude.{Bool, true, false, not, List, [], ◌∷◌, map, ℕ, eqb, Option, None, Some}
use Rattle.octets.specs.Ascii.{ascii}
use Rattle.octets.specs.Pick.{pick, ◌and◌}
use Rattle.octets.specs.Append.{◌⊕◌}
use Rattle.octets.specs.Class.{upper}
use Rattle.octets.specs.Words.{same, is_empty, cut_at, joined_by, row_of}
use Rattle.octets.specs.Lists.{every, distinct}
use Rattle.octets.specs.Reading.{provided, and_then, is_read, read_each}
use Rattle.octets.specs.Front.{up_to, past}
use Rattle.calendar.specs.Calendar.{ical, RuleItem, RulePart}
use Rattle.recur.specs.Parts.{part_names, is_list_part}
use Rattle.recur.specs.Item.{read_item, write_item, is_item}

-- ---- one part

abbrev pub rule_part : List ℕ → List RuleItem → RulePart
rule_part n is = record { part = n; items = is }

-- 61 is =
abbrev pub is_equals : ℕ → Bool
is_equals b = eqb b 61

-- the characters of each item; 44 is a comma
abbrev pub items_of : List ℕ → List ℕ → List (List ℕ)
items_of n v = pick (is_list_part n) (cut_at 44 v) (v ∷ [])

abbrev pub read_items : List ℕ → List ℕ → Option RulePart
read_items n v = and_then (read_each (read_item ical n) (items_of n v)) (λ is. Some (rule_part n is))

-- the name stands before the first =, the items after it. Where there is no =, there are no characters after it, and no item has none
abbrev pub read_part : List ℕ → Option RulePart
read_part s = read_items (upper (up_to is_equals s)) (past is_equals s)

abbrev pub write_part : RulePart → List ℕ
write_part p = p.part ⊕ (61 ∷ joined_by 44 (map (write_item ical) p.items))

-- one item at least, and one only where the part has no list
abbrev pub is_amount : Bool → List RuleItem → Bool
is_amount l [] = false
is_amount l (i ∷ is) = pick l true (is_empty is)

abbrev pub is_part : RulePart → Bool
is_part p = is_amount (is_list_part p.part) p.items and every (is_item p.part) p.items

-- ---- the parts together

abbrev pub name_of : RulePart → List ℕ
name_of p = p.part

abbrev pub part_named : List ℕ → List RulePart → Option RulePart
part_named n ps = row_of name_of n ps

abbrev pub has_part : List ℕ → List RulePart → Bool
has_part n ps = is_read (part_named n ps)

-- FREQ is there; UNTIL and COUNT are not both there
abbrev pub is_complete : List RulePart → Bool
is_complete ps = has_part (ascii "FREQ") ps and not (has_part (ascii "UNTIL") ps and has_part (ascii "COUNT") ps)

unfoldable pub with_part : Option RulePart → List RulePart → List RulePart
with_part None l = l
with_part (Some p) l = p ∷ l

-- the parts of these names, in the order of the names
unfoldable pub in_order : List (List ℕ) → List RulePart → List RulePart
in_order [] ps = []
in_order (n ∷ ns) ps = with_part (part_named n ps) (in_order ns ps)

-- the parts without the first, if that has this name
unfoldable pub after_named : List ℕ → List RulePart → List RulePart
after_named n [] = []
after_named n (p ∷ ps) = pick (same n p.part) ps (p ∷ ps)

-- the names of the parts are some of these names, in their order
unfoldable pub is_ordered : List (List ℕ) → List RulePart → Bool
is_ordered [] ps = is_empty ps
is_ordered (n ∷ ns) ps = is_ordered ns (after_named n ps)

-- ---- a rule

abbrev pub ruled : List RulePart → Option (List RulePart)
ruled ps = provided (distinct (map name_of ps) and is_complete ps) (in_order part_names ps)

-- 59 is ;
abbrev pub read_rule : List ℕ → Option (List RulePart)
read_rule s = and_then (read_each read_part (cut_at 59 s)) ruled

abbrev pub write_rule : List RulePart → List ℕ
write_rule ps = joined_by 59 (map write_part ps)

abbrev pub is_rule : List RulePart → Bool
is_rule ps = is_ordered part_names ps and is_complete ps and every is_part ps
