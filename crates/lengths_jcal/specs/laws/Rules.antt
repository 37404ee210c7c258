-- The object of a rule: no longer than the rule's elements.
--     rule_length
use Rattle.std.specs.Prelude.{◌≡◌, refl, Bool, true, List, [], ◌∷◌, map, ℕ, ◌+◌, ◌*◌, ◌≤◌, eqb, leb, length, Option, None, Some}
use Rattle.std.proofs.Common.{ap, arith, leb-true}
use Rattle.std.proofs.lemmas.Bool.{false≢true}
use Rattle.octets.specs.Ascii.{ascii}
use Rattle.octets.specs.Append.{◌⊕◌}
use Rattle.octets.specs.laws.Append.{length_both}
use Rattle.octets.specs.Pick.{◌and◌}
use Rattle.octets.specs.laws.Pick.{and_both, pick_either}
use Rattle.octets.specs.Class.{lower}
use Rattle.octets.specs.laws.Letters.{lower-length}
use Rattle.octets.specs.Scan.{all_of}
use Rattle.octets.specs.Lists.{every}
use Rattle.octets.specs.laws.Lists.{every_both}
use Rattle.octets.specs.laws.Tables.{row_named, row_passes}
use Rattle.octets.specs.Computing.{octets_compute}
use Rattle.calendar.specs.Calendar.{xcal, RuleItem, moment, number, word, weekday, RulePart}
use Rattle.recur.specs.Parts.{Part, part_of, part_table}
use Rattle.recur.specs.Item.{write_item, is_for, is_item}
use Rattle.recur.specs.Rule.{is_amount, is_part, is_rule, read_rule}
use Rattle.recur.specs.laws.RuleLaws.{rule_accepted}
use Rattle.xml.specs.Escape.{escaped_byte, escaped as entities}
use Rattle.xcal.specs.WriteXml.{text_element, items_xml, parts_xml}
use Rattle.json_text.specs.Write.{escaped, quoted}
use Rattle.jcal.specs.WriteJcal.{one_or_array, item_json, part_json}
use Rattle.jcal.proofs.laws.Plain.{is_plain, plain_escaped, item_plain}
use Rattle.lengths_xml.specs.laws.Elements.{rate, element_length}
use Rattle.lengths_xml.specs.laws.Pieces.{weight}
use Rattle.lengths_xml.specs.laws.Rules as elements
use Rattle.lengths_jcal.specs.laws.Strings.{one_length}

-- ---- an item

-- an entity is no shorter than its character
entities-length : (s : List ℕ) → length s ≤ length (entities s)
unfolding entities
entities-length [] = omega arith
entities-length (b ∷ s) = omega (arith, length_both (escaped_byte b) (entities s), least b, entities-length s)
  where
    Long : List ℕ → Type 0
    Long l = 1 ≤ length l

    least : (b : ℕ) → Long (escaped_byte b)
    least b =
        pick_either Long (eqb b 38) (ascii "&amp;") _ (omega arith)
        (pick_either Long (eqb b 60) (ascii "&lt;") _ (omega arith) (pick_either Long (eqb b 62) (ascii "&gt;") (b ∷ []) (omega arith) (omega arith)))

plain_quoted : (s : List ℕ) → escaped s ≡ s → length (quoted s) ≤ length s + 2
plain_quoted s e = omega (arith, length_both (ascii "\"") (escaped s ⊕ ascii "\""), length_both (escaped s) (ascii "\""), ap length e)

item_short : (n : List ℕ) (i : RuleItem) → is_item n i ≡ true → length (item_json i) ≤ length (write_item xcal i) + 2
item_short n (moment m) h = plain_quoted (write_item xcal (moment m)) (item_plain n (moment m) h)
item_short n (number w) h = omega arith
item_short n (word w) h = plain_quoted (write_item xcal (word w)) (item_plain n (word w) h)
item_short n (weekday o d) h = plain_quoted (write_item xcal (weekday o d)) (item_plain n (weekday o d) h)

element_least : (n : List ℕ) (i : RuleItem) → 2 * length n + 5 + length (write_item xcal i) ≤ length (text_element (lower n) (write_item xcal i))
element_least n i = omega (arith, element_length (lower n) (entities (write_item xcal i)), lower-length n, entities-length (write_item xcal i))

-- the items of a part, the first of them and the others
items_short : (n : List ℕ) (i : RuleItem) (is : List RuleItem) → every (is_item n) (i ∷ is) ≡ true → weight (map item_json (i ∷ is)) + 2 * length n + 2 ≤ length (items_xml (lower n) (i ∷ is))
unfolding weight items_xml
items_short n i [] h =
    let a = every_both (is_item n) i [] h in
    omega (arith, item_short n i a.0, element_least n i, length_both (text_element (lower n) (write_item xcal i)) [])
items_short n i (j ∷ is) h =
    let a = every_both (is_item n) i (j ∷ is) h in
    let x : List ℕ = text_element (lower n) (write_item xcal i) in
    omega (arith, item_short n i a.0, element_least n i, length_both x (items_xml (lower n) (j ∷ is)), items_short n j is a.1)

-- ---- a part

-- a name of four letters or more, which have no escapes
abbrev is_named : Part → Bool
is_named r = leb 4 (length r.name) and all_of is_plain (lower r.name)

all_named : every is_named part_table ≡ true
unfolding octets_compute
all_named = refl

part_named : (n : List ℕ) (i : RuleItem) → is_item n i ≡ true → (4 ≤ length n) × (escaped (lower n) ≡ lower n)
part_named n i h = go (part_of n) refl h
  where
    go : (o : Option Part) → part_of n ≡ o → is_for o i ≡ true → (4 ≤ length n) × (escaped (lower n) ≡ lower n)
    go None e k = absurd (false≢true k)
    go (Some r) e k =
        let p = and_both _ _ (row_passes (λ (x : Part). x.name) n is_named part_table r all_named e) in
        let q = row_named (λ (x : Part). x.name) n part_table r e in
        (rw (← q) (leb-true _ _ p.0), rw (← q) (plain_escaped _ p.1))

part_short : (p : RulePart) → is_part p ≡ true → length (part_json p) + 1 ≤ length (items_xml (lower p.part) p.items)
part_short p h = let a = and_both _ _ h in go p.part p.items _ a.0 a.1
  where
    go : (n : List ℕ) (is : List RuleItem) (l : Bool) → is_amount l is ≡ true → every (is_item n) is ≡ true → length (part_json (record { part = n; items = is })) + 1 ≤ length (items_xml (lower n) is)
    go n [] l a h = absurd (false≢true a)
    go n (i ∷ is) l a h =
        let m = part_named n i (every_both (is_item n) i is h).0 in
        let v : List ℕ = one_or_array (map item_json (i ∷ is)) in
        let q = plain_quoted (lower n) m.1 in
        let w = one_length (map item_json (i ∷ is)) in
        omega (arith, m.0, lower-length n, q, w, items_short n i is h, length_both (quoted (lower n)) (ascii ":" ⊕ v), length_both (ascii ":") v)

parts_short : (ps : List RulePart) → every is_part ps ≡ true → weight (map part_json ps) ≤ length (parts_xml ps)
unfolding weight parts_xml
parts_short [] h = omega arith
parts_short (p ∷ ps) h =
    let a = every_both is_part p ps h in
    omega (arith, part_short p a.0, parts_short ps a.1, length_both (items_xml (lower p.part) p.items) (parts_xml ps))

-- ---- a rule

pub rule_length : (s : List ℕ) (ps : List RulePart) → read_rule s ≡ Some ps → 15 + weight (map part_json ps) ≤ rate * (length s + 1)
rule_length s ps h = omega (arith, elements.rule_length s ps h, parts_short ps (parts_of_lem ps (rule_accepted s ps h)))
  where
    parts_of_lem : (ps : List RulePart) → is_rule ps ≡ true → every is_part ps ≡ true
    parts_of_lem ps h = (and_both _ _ (and_both _ _ h).1).1
