-- The text of a recurrence rule, by the size of its members. Its parts are written in another order.
--     rule_brief
use Rattle.std.specs.Prelude.{◌≡◌, refl, Bool, List, [], ◌∷◌, map, ℕ, suc, ◌+◌, ◌*◌, ◌≤◌, length, Option, None, Some}
use Rattle.std.proofs.Common.{sym, ap, ◌∙◌}
use Rattle.std.proofs.Math.Bool.{true, false}
use Rattle.std.proofs.lemmas.Bool.{false≢true}
use native.Mathlib.Omega.{arith}
use Rattle.octets.specs.Pick.{pick, ◌or◌}
use Rattle.octets.specs.laws.Pick.{pick_either, pick_second}
use Rattle.octets.specs.laws.Append.{length_both}
use Rattle.octets.specs.Class.{upper, lower}
use Rattle.octets.specs.Words.{same, is_one_of, joined_by, row_of}
use Rattle.octets.specs.laws.Words.{same_true, same_either}
use Rattle.octets.specs.Lists.{distinct}
use Rattle.octets.specs.laws.Tables.{row_named}
use Rattle.octets.specs.Reading.{provided, and_then, read_or, read_each}
use Rattle.octets.specs.laws.Reading.{provided-some, and_then-some, none-some}
use Rattle.octets.specs.laws.Letters.{upper-length}
use Rattle.calendar.specs.Calendar.{ical, xcal, RuleItem, RulePart, Value, recur}
use Rattle.recur.specs.Parts.{ItemForm, word_of, enddate, counting, unsigned, signed, weekdaynum, Part, part_table, part_names, part_of}
use Rattle.recur.specs.Item.{read_form, write_item}
use Rattle.recur.specs.Rule.{rule_part, write_part, is_amount, part_named, with_part, in_order, ruled, write_rule}
use Rattle.recur.specs.laws.RuleLaws.{names_once}
use Rattle.values.specs.WriteValue.{write_value}
use Rattle.values.specs.laws.ReadBack.{made}
use Rattle.json_text.specs.Tree.{Json, Member}
use Rattle.json_text.specs.Kinds.{or_alone}
use Rattle.jcal.specs.Values.{item_text, read_item, read_items, read_part, read_recur}
use Rattle.lengths_xml.specs.laws.Pieces.{weight, joined_within}
use Rattle.lengths_text.specs.laws.Bytes.{name_length}
use Rattle.lengths_text.specs.laws.Rules.{item_length}
use Rattle.lengths_jcal_text.specs.laws.Sizes.{size, size_some, total, member_total, as_string_lem, as_number_lem, alone_size, costs, total-costs, member_size, member_costs, each_weight}

-- ---- an item

text_size : (k : ItemForm) (v : Json) (s : List ℕ) → item_text k v ≡ Some s → length s ≤ size v
text_size (word_of ws) v s h = omega (arith, as_string_lem v s h)
text_size enddate v s h = omega (arith, as_string_lem v s h)
text_size counting v s h = omega (arith, as_number_lem v s h, name_length s)
text_size (unsigned d lo hi) v s h = omega (arith, as_number_lem v s h, name_length s)
text_size (signed d hi) v s h = omega (arith, as_number_lem v s h, name_length s)
text_size weekdaynum v s h = omega (arith, as_string_lem v s h)

form_length : (n : List ℕ) (r : Part) (s : List ℕ) (i : RuleItem) → part_of n ≡ Some r → read_form xcal r.form s ≡ Some i → length (write_item ical i) ≤ length s + 1
unfolding and_then read_or
form_length n r s i e h = rw (e, h) at (item_length n s)

item_brief : (n : List ℕ) (r : Part) → part_of n ≡ Some r → (v : Json) (i : RuleItem) → read_item r v ≡ Some i → length (write_item ical i) + 1 ≤ 4 * size v
item_brief n r e v i h =
    let q = and_then-some (item_text r.form v) (read_form xcal r.form) i h in
    omega (arith, text_size r.form v q.0 q.1, form_length n r q.0 i e q.2, size_some v)

-- ---- a part

items_brief : (m : Member) (r : Part) (p : RulePart) → part_of (upper m.name) ≡ Some r → read_items r (or_alone m.value) ≡ Some p → length (write_part p) + 1 ≤ 4 * member_size m
items_brief m r p e h =
    let vs : List Json = or_alone m.value in
    let q = and_then-some (read_each (read_item r) vs) (λ is. provided (is_amount r.listed is) (rule_part r.name is)) p h in
    let f = provided-some (is_amount r.listed q.0) (rule_part r.name q.0) p q.2 in
    let items : List (List ℕ) = map (write_item ical) q.0 in
    let read = each_weight size (read_item r) (write_item ical) (item_brief (upper m.name) r e) vs q.0 q.1 in
    let name = ap length (row_named (λ (x : Part). x.name) (upper m.name) part_table r e) in
    rw (← f.1) (omega (arith, length_both r.name (61 ∷ joined_by 44 items), joined_within 44 items, read, total-costs vs, alone_size m.value, name, upper-length m.name))

part_brief : (m : Member) (p : RulePart) → read_part m ≡ Some p → length (write_part p) + 1 ≤ 4 * member_size m
unfolding pick
part_brief m p h = go (same m.name (lower m.name)) h
  where
    go : (t : Bool) → pick t (and_then (part_of (upper m.name)) (λ r. read_items r (or_alone m.value))) None ≡ Some p → length (write_part p) + 1 ≤ 4 * member_size m
    go true k = let q = and_then-some (part_of (upper m.name)) (λ r. read_items r (or_alone m.value)) p k in items_brief m q.0 p q.1 q.2
    go false k = none-some k

-- ---- parts in order

-- the text of the parts whose names pass a test
unfoldable chosen : (List ℕ → Bool) → List RulePart → ℕ
chosen t [] = 0
chosen t (x ∷ ps) = pick (t x.part) (length (write_part x) + 1) 0 + chosen t ps

chosen-weight : (t : List ℕ → Bool) (ps : List RulePart) → chosen t ps ≤ weight (map write_part ps)
unfolding chosen weight
chosen-weight t [] = omega arith
chosen-weight t (x ∷ ps) =
    pick_either (λ (n : ℕ). n + chosen t ps ≤ length (write_part x) + 1 + weight (map write_part ps)) (t x.part) (length (write_part x) + 1) 0
    (omega (arith, chosen-weight t ps)) (omega (arith, chosen-weight t ps))

-- tests that no name passes both of
chosen_apart : (t u : List ℕ → Bool) → ((m : List ℕ) → t m ≡ true → u m ≡ false) → (ps : List RulePart) → chosen t ps + chosen u ps ≤ chosen (λ m. t m or u m) ps
unfolding chosen pick ◌or◌
chosen_apart t u h [] = omega arith
chosen_apart t u h (x ∷ ps) = go (t x.part) (u x.part) (h x.part) (chosen_apart t u h ps)
  where
    here : ℕ
    here = length (write_part x) + 1

    go : (a b : Bool) → (a ≡ true → b ≡ false) → chosen t ps + chosen u ps ≤ chosen (λ m. t m or u m) ps →
        pick a here 0 + chosen t ps + (pick b here 0 + chosen u ps) ≤ pick (a or b) here 0 + chosen (λ m. t m or u m) ps
    go true true k ih = absurd (false≢true (sym (k refl)))
    go true false k ih = omega (arith, ih)
    go false true k ih = omega (arith, ih)
    go false false k ih = omega (arith, ih)

abbrev named : List ℕ → List ℕ → Bool
named n m = same m n

-- the part of a name, in front of others
with_weight : (n : List ℕ) (ps l : List RulePart) → weight (map write_part (with_part (part_named n ps) l)) ≤ chosen (named n) ps + weight (map write_part l)
unfolding row_of chosen pick with_part
with_weight n [] l = omega arith
with_weight n (x ∷ ps) l = go (same n x.part) (same x.part n) (same_either n x.part) (with_weight n ps l)
  where
    go : (a b : Bool) → a ≡ b → weight (map write_part (with_part (part_named n ps) l)) ≤ chosen (named n) ps + weight (map write_part l) →
        weight (map write_part (with_part (pick a (Some x) (part_named n ps)) l)) ≤ pick b (length (write_part x) + 1) 0 + chosen (named n) ps + weight (map write_part l)
    go true true e ih = unfold weight in omega arith
    go true false e ih = absurd (false≢true (sym e))
    go false true e ih = absurd (false≢true e)
    go false false e ih = omega (arith, ih)

order_chosen : (ns : List (List ℕ)) → distinct ns ≡ true → (ps : List RulePart) → weight (map write_part (in_order ns ps)) ≤ chosen (λ m. is_one_of m ns) ps
unfolding in_order distinct is_one_of
order_chosen [] h ps = unfold weight in omega arith
order_chosen (n ∷ ns) h ps =
    let d = pick_second (is_one_of n ns) (distinct ns) h in
    let other : (m : List ℕ) → same m n ≡ true → is_one_of m ns ≡ false = λ m e. ap (λ (w : List ℕ). is_one_of w ns) (same_true m n e) ∙ d.0 in
    let both : chosen (named n) ps + chosen (λ m. is_one_of m ns) ps ≤ chosen (λ m. is_one_of m (n ∷ ns)) ps = chosen_apart (named n) (λ m. is_one_of m ns) other ps in
    omega (arith, with_weight n ps (in_order ns ps), order_chosen ns d.1 ps, both)

-- ---- a rule

ruled_brief : (ms : List Member) (ps : List RulePart) → and_then (read_each read_part ms) ruled ≡ Some ps → length (write_rule ps) ≤ 4 * member_total ms
ruled_brief ms ps h =
    let q = and_then-some (read_each read_part ms) ruled ps h in
    let e = provided-some _ (in_order part_names q.0) ps q.2 in
    let read = each_weight member_size read_part write_part part_brief ms q.0 q.1 in
    let order = order_chosen part_names names_once q.0 in
    rw (← e.1) (omega (arith, joined_within 59 (map write_part (in_order part_names q.0)), order, chosen-weight (λ m. is_one_of m part_names) q.0, read, member_costs ms))

pub rule_brief : (ms : List Member) (v : Value) → read_recur ms ≡ Some v → length (write_value v) ≤ 4 * member_total ms
unfolding write_value
rule_brief ms v h = made (λ v. length (write_value v) ≤ 4 * member_total ms) recur (and_then (read_each read_part ms) ruled) v h (λ ps e. ruled_brief ms ps e)
