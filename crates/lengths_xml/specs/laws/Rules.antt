-- Recurrence rules: an item for each piece between commas, a part for each piece between semicolons. A part's element stands for each of its items, and its
-- name has ten letters at most. In order each part stands once.
--     split_length    what stands before the first byte that passes a test, and from it on
--     Counted         a number is no longer than what it is read from and a byte;   counting_read, unsigned_read, signed_read, ordinal_read
--     item_length     an item
--     part_length     the elements of a part
--     order_length    parts in the order of distinct names
--     rule_length     the elements of a rule
use Rattle.std.specs.Prelude.{◌≡◌, refl, Bool, List, [], ◌∷◌, ℕ, suc, ◌+◌, ◌*◌, ◌≤◌, leb, length, Option, None, Some}
use Rattle.std.proofs.Common.{sym, ap, ◌∙◌, leb-true}
use Rattle.std.proofs.Math.Bool.{true, false}
use Rattle.std.proofs.lemmas.Bool.{false≢true}
use native.Mathlib.Omega.{arith}
use Rattle.octets.specs.Pick.{pick, ◌and◌, ◌or◌}
use Rattle.octets.specs.laws.Pick.{pick_either, pick_second, and_both}
use Rattle.octets.specs.Append.{◌⊕◌}
use Rattle.octets.specs.laws.Append.{length_both}
use Rattle.octets.specs.Class.{is_alpha, upper, lower}
use Rattle.octets.specs.Words.{same, is_empty, is_one_of, cut_at, row_of}
use Rattle.octets.specs.laws.Words.{same_true, same_either, cut_some}
use Rattle.octets.specs.laws.Tables.{row_named, row_passes}
use Rattle.octets.specs.Lists.{every, distinct}
use Rattle.octets.specs.laws.Lists.{word_passes}
use Rattle.octets.specs.Decimal.{value, is_number, digits}
use Rattle.octets.specs.Reading.{and_then, read_each, cons_read}
use Rattle.octets.specs.laws.Reading.{provided-some, and_then-some, cons_read-some}
use Rattle.octets.specs.Computing.{octets_compute}
use Rattle.octets.specs.Front.{up_to, from_on, past}
use Rattle.octets.specs.laws.Letters.{upper-length, lower-length}
use Rattle.calendar.specs.Calendar.{ical, xcal, Whole, RuleItem, moment, number, word, weekday, RulePart}
use Rattle.times.specs.Date.{is_date, read_date, write_date}
use Rattle.times.specs.DateTime.{read_date_time, write_date_time}
use Rattle.numbers.specs.Sign.{has_minus, after_sign}
use Rattle.numbers.specs.Integer.{write_whole}
use Rattle.recur.specs.Parts.{ItemForm, word_of, enddate, counting, unsigned, signed, weekdaynum, Part, part_table, part_names, part_of, is_list_part, weekdays}
use Rattle.recur.specs.Item.{whole_number, is_numeral, is_short, read_word, read_counting, read_unsigned, read_signed, read_ordinal, write_ordinal, or_other, read_enddate, read_form, write_item, read_item}
use Rattle.recur.specs.Rule.{rule_part, is_equals, items_of, read_part, part_named, with_part, in_order, ruled, read_rule}
use Rattle.recur.specs.laws.RuleLaws.{names_once}
use Rattle.xcal.specs.WriteXml.{text_element, items_xml, parts_xml}
use Rattle.lengths_xml.specs.laws.Elements.{rate, text_element_length}
use Rattle.lengths_xml.specs.laws.Pieces.{weight, cut_weight}
use Rattle.lengths_xml.specs.laws.Times.{date_kept, date_some, date_time_kept, date_time_some, date_written, date_time_written}
use Rattle.lengths_xml.specs.laws.Numbers.{number_some, numeral_length, signed_length, whole_length, whole_some}

-- ---- an item

abbrev filled : List ℕ → Bool
filled w = leb 1 (length w)

pub split_length : (p : ℕ → Bool) (s : List ℕ) → length (up_to p s) + length (from_on p s) ≡ length s
unfolding up_to from_on pick
split_length p [] = omega arith
split_length p (b ∷ s) = go (p b) (split_length p s)
  where
    go : (t : Bool) → length (up_to p s) + length (from_on p s) ≡ length s → length (pick t [] (b ∷ up_to p s)) + length (pick t (b ∷ s) (from_on p s)) ≡ suc (length s)
    go true ih = omega arith
    go false ih = omega (arith, ih)

past-length : (p : ℕ → Bool) (s : List ℕ) → length (up_to p s) + length (past p s) ≤ length s
unfolding up_to past pick
past-length p [] = omega arith
past-length p (b ∷ s) = go (p b) (past-length p s)
  where
    go : (t : Bool) → length (up_to p s) + length (past p s) ≤ length s → length (pick t [] (b ∷ up_to p s)) + length (pick t s (past p s)) ≤ suc (length s)
    go true ih = omega arith
    go false ih = omega (arith, ih)

enddate_kept : (s m : List ℕ) → read_enddate ical s ≡ Some m → length m ≡ length s
enddate_kept s m h = go (read_date ical s) refl h
  where
    go : (o : Option (List ℕ)) → read_date ical s ≡ o → or_other o (read_date_time ical s) ≡ Some m → length m ≡ length s
    go None e k = date_time_kept s m k
    go (Some d) e k = let q : d ≡ m = cc in rw (← q) (date_kept s d e)

enddate_some : (s m : List ℕ) → read_enddate ical s ≡ Some m → 8 ≤ length s
enddate_some s m h = go (read_date ical s) refl h
  where
    go : (o : Option (List ℕ)) → read_date ical s ≡ o → or_other o (read_date_time ical s) ≡ Some m → 8 ≤ length s
    go None e k = omega (arith, date_time_some s m k)
    go (Some d) e k = date_some s d e

enddate_written : (m : List ℕ) → length (write_item xcal (moment m)) ≤ length m + 4
enddate_written m = pick_either (λ (l : List ℕ). length l ≤ length m + 4) (is_date m) (write_date xcal m) (write_date_time xcal m) (date_written m) (date_time_written m)

-- one of some words, of which none is empty
word_length : (ws : List (List ℕ)) (s w : List ℕ) → every filled ws ≡ true → read_word ical ws s ≡ Some w → (1 ≤ length w) × (length w ≡ length s)
word_length ws s w f h =
    let q = provided-some (is_one_of (upper s) ws) (upper s) w h in
    let one : 1 ≤ length (upper s) = leb-true 1 (length (upper s)) (word_passes filled ws (upper s) f q.0) in
    rw (← q.1) (one, upper-length s)

-- a number, and what it is read from
abbrev pub Counted : List ℕ → Whole → Type 0
Counted s w = (1 ≤ length s) × (length (write_whole w) ≤ length s + 1)

plain_counted : (most : ℕ) (s : List ℕ) → is_number most s ≡ true → Counted s (whole_number false (value 0 s))
plain_counted most s h = (number_some most s h, omega (arith, signed_length false (digits 9 (value 0 s)), numeral_length most s h))

pub counting_read : (s : List ℕ) (w : Whole) → read_counting s ≡ Some w → Counted s w
counting_read s w h =
    let q = provided-some (is_numeral 1 2147483647 s) (whole_number false (value 0 s)) w h in
    rw (← q.1) (plain_counted 2147483647 s (and_both _ _ q.0).0)

pub unsigned_read : (d lo hi : ℕ) (s : List ℕ) (w : Whole) → read_unsigned d lo hi s ≡ Some w → Counted s w
unsigned_read d lo hi s w h =
    let q = provided-some (is_short d s and is_numeral lo hi s) (whole_number false (value 0 s)) w h in
    rw (← q.1) (plain_counted hi s (and_both _ _ (and_both _ _ q.0).1).0)

pub signed_read : (d hi : ℕ) (s : List ℕ) (w : Whole) → read_signed d hi s ≡ Some w → Counted s w
signed_read d hi s w h =
    let q = provided-some (is_short d (after_sign s) and is_numeral 1 hi (after_sign s)) (whole_number (has_minus s) (value 0 (after_sign s))) w h in
    let n = (and_both _ _ (and_both _ _ q.0).1).0 in
    rw (← q.1) (whole_some hi s n, whole_length hi (has_minus s) s n)

pub ordinal_read : (s : List ℕ) (o : Option Whole) → read_ordinal s ≡ Some o → length (write_ordinal o) ≤ length s + 1
ordinal_read [] o h = let q : None ≡ o = cc in rw (← q) (omega arith)
ordinal_read (b ∷ s) o h =
    let q = and_then-some (read_signed 2 53 (b ∷ s)) (λ w. Some (Some w)) o h in
    let e : Some q.0 ≡ o = cc q.2 in
    rw (← e) (signed_read 2 53 (b ∷ s) q.0 q.1).1

-- an item in its element, whose name has ten letters at most, with every byte escaped
abbrev Paid : List ℕ → RuleItem → Type 0
Paid s i = 25 + 5 * length (write_item xcal i) ≤ rate * (length s + 1)

number_length : (o : Option Whole) (s : List ℕ) (i : RuleItem) → ((w : Whole) → o ≡ Some w → Counted s w) → and_then o (λ w. Some (number w)) ≡ Some i → Paid s i
number_length o s i f h =
    let q = and_then-some o (λ w. Some (number w)) i h in
    let e : number q.0 ≡ i = cc q.2 in
    let c = f q.0 q.1 in
    rw (← e) (omega (arith, c.0, c.1))

-- a form that has only words that are not empty
unfoldable spelt : ItemForm → Bool
spelt (word_of ws) = every filled ws
spelt enddate = true
spelt counting = true
spelt (unsigned d lo hi) = true
spelt (signed d hi) = true
spelt weekdaynum = true

filled-weekdays : every filled weekdays ≡ true
unfolding octets_compute
filled-weekdays = refl

form_length : (k : ItemForm) (s : List ℕ) (i : RuleItem) → spelt k ≡ true → read_form ical k s ≡ Some i → Paid s i
unfolding spelt
form_length (word_of ws) s i f h =
    let q = and_then-some (read_word ical ws s) (λ w. Some (word w)) i h in
    let e : word q.0 ≡ i = cc q.2 in
    let l = word_length ws s q.0 f q.1 in
    rw (← e) (omega (arith, l.0, l.1))
form_length enddate s i f h =
    let q = and_then-some (read_enddate ical s) (λ m. Some (moment m)) i h in
    let e : moment q.0 ≡ i = cc q.2 in
    rw (← e) (omega (arith, enddate_kept s q.0 q.1, enddate_written q.0, enddate_some s q.0 q.1))
form_length counting s i f h = number_length (read_counting s) s i (counting_read s) h
form_length (unsigned d lo hi) s i f h = number_length (read_unsigned d lo hi s) s i (unsigned_read d lo hi s) h
form_length (signed d hi) s i f h = number_length (read_signed d hi s) s i (signed_read d hi s) h
form_length weekdaynum s i f h =
    let p = and_then-some (read_ordinal (up_to is_alpha s)) (λ o. and_then (read_word ical weekdays (from_on is_alpha s)) (λ d. Some (weekday o d))) i h in
    let q = and_then-some (read_word ical weekdays (from_on is_alpha s)) (λ d. Some (weekday p.0 d)) i p.2 in
    let e : weekday p.0 q.0 ≡ i = cc q.2 in
    let l = word_length weekdays (from_on is_alpha s) q.0 filled-weekdays q.1 in
    rw (← e) (omega (arith, length_both (write_ordinal p.0) q.0, ordinal_read (up_to is_alpha s) p.0 p.1, l.0, l.1, split_length is_alpha s))

-- ---- a part

good_part : Part → Bool
good_part r = leb 4 (length r.name) and leb (length r.name) 10 and spelt r.form

good_parts : every good_part part_table ≡ true
unfolding good_part spelt octets_compute
good_parts = refl

-- a name of four to ten letters, and no empty words
record Good (n : List ℕ) (r : Part) : Type 0 where
  long : 4 ≤ length n
  short : length n ≤ 10
  words : spelt r.form ≡ true

part_good : (n : List ℕ) (r : Part) → part_of n ≡ Some r → Good n r
unfolding good_part
part_good n r h =
    let p = and_both _ _ (row_passes (λ (x : Part). x.name) n good_part part_table r good_parts h) in
    let q = and_both _ _ p.1 in
    let e = row_named (λ (x : Part). x.name) n part_table r h in
    record { long = rw (← e) (leb-true _ _ p.0); short = rw (← e) (leb-true _ _ q.0); words = q.1 }

pub item_length : (n s : List ℕ) (i : RuleItem) → read_item ical n s ≡ Some i → length (text_element (lower n) (write_item xcal i)) ≤ rate * (length s + 1)
item_length n s i h =
    let q = and_then-some (part_of n) (λ r. read_form ical r.form s) i h in
    let g = part_good n q.0 q.1 in
    omega (arith, g.short, lower-length n, form_length q.0.form s i g.words q.2, text_element_length (lower n) (write_item xcal i))

items_length : (n : List ℕ) (l : List (List ℕ)) (is : List RuleItem) → read_each (read_item ical n) l ≡ Some is → length (items_xml (lower n) is) ≤ rate * weight l
unfolding read_each items_xml weight
items_length n [] is h = let q : [] ≡ is = cc in rw (← q) (omega arith)
items_length n (s ∷ l) is h =
    let e = and_then-some (read_item ical n s) (λ i. cons_read i (read_each (read_item ical n) l)) is h in
    let f = cons_read-some e.0 (read_each (read_item ical n) l) is e.2 in
    let x : List ℕ = text_element (lower n) (write_item xcal e.0) in
    rw (← f.2) (omega (arith, length_both x (items_xml (lower n) f.0), item_length n s e.0 e.1, items_length n l f.0 f.1))

-- where an item is read, the part has its name
items_named : (n : List ℕ) (l : List (List ℕ)) (is : List RuleItem) → is_empty l ≡ false → read_each (read_item ical n) l ≡ Some is → 4 ≤ length n
unfolding read_each
items_named n [] is f h = absurd (false≢true (sym f))
items_named n (s ∷ l) is f h =
    let e = and_then-some (read_item ical n s) (λ i. cons_read i (read_each (read_item ical n) l)) is h in
    let q = and_then-some (part_of n) (λ r. read_form ical r.form s) e.0 e.1 in
    (part_good n q.0 q.1).long

of_some : (n v : List ℕ) → is_empty (items_of n v) ≡ false
of_some n v = pick_either (λ (l : List (List ℕ)). is_empty l ≡ false) (is_list_part n) (cut_at 44 v) (v ∷ []) (cut_some 44 v) refl

of_weight : (n v : List ℕ) → weight (items_of n v) ≤ suc (length v)
unfolding weight
of_weight n v = pick_either (λ (l : List (List ℕ)). weight l ≤ suc (length v)) (is_list_part n) (cut_at 44 v) (v ∷ []) (cut_weight 44 v) (omega arith)

-- with the element round the rule
pub part_length : (s : List ℕ) (p : RulePart) → read_part s ≡ Some p → 15 + length (items_xml (lower p.part) p.items) ≤ rate * (length s + 1)
part_length s p h =
    let n : List ℕ = upper (up_to is_equals s) in
    let v : List ℕ = past is_equals s in
    let q = and_then-some (read_each (read_item ical n) (items_of n v)) (λ is. Some (rule_part n is)) p h in
    let e : rule_part n q.0 ≡ p = cc q.2 in
    let named = items_named n (items_of n v) q.0 (of_some n v) q.1 in
    rw (← e) (omega (arith, items_length n (items_of n v) q.0 q.1, of_weight n v, named, upper-length (up_to is_equals s), past-length is_equals s))

-- ---- parts as they stand

parts_length : (l : List (List ℕ)) (ps : List RulePart) → read_each read_part l ≡ Some ps → 15 * length l + length (parts_xml ps) ≤ rate * weight l
unfolding read_each parts_xml weight
parts_length [] ps h = let q : [] ≡ ps = cc in rw (← q) (omega arith)
parts_length (s ∷ l) ps h =
    let e = and_then-some (read_part s) (λ p. cons_read p (read_each read_part l)) ps h in
    let f = cons_read-some e.0 (read_each read_part l) ps e.2 in
    let x : List ℕ = items_xml (lower e.0.part) e.0.items in
    rw (← f.2) (omega (arith, length_both x (parts_xml f.0), part_length s e.0 e.1, parts_length l f.0 f.1))

-- ---- parts in order

-- the elements of the parts whose names pass a test
unfoldable chosen : (List ℕ → Bool) → List RulePart → ℕ
chosen t [] = 0
chosen t (x ∷ ps) = pick (t x.part) (length (items_xml (lower x.part) x.items)) 0 + chosen t ps

chosen-length : (t : List ℕ → Bool) (ps : List RulePart) → chosen t ps ≤ length (parts_xml ps)
unfolding chosen parts_xml
chosen-length t [] = omega arith
chosen-length t (x ∷ ps) =
    let here : List ℕ = items_xml (lower x.part) x.items in
    pick_either (λ (n : ℕ). n + chosen t ps ≤ length (here ⊕ parts_xml ps)) (t x.part) (length here) 0
    (omega (arith, length_both here (parts_xml ps), chosen-length t ps)) (omega (arith, length_both here (parts_xml ps), chosen-length t ps))

-- tests that no name passes both of
chosen_apart : (t u : List ℕ → Bool) → ((m : List ℕ) → t m ≡ true → u m ≡ false) → (ps : List RulePart) → chosen t ps + chosen u ps ≤ chosen (λ m. t m or u m) ps
unfolding chosen pick ◌or◌
chosen_apart t u h [] = omega arith
chosen_apart t u h (x ∷ ps) = go (t x.part) (u x.part) (h x.part) (chosen_apart t u h ps)
  where
    here : ℕ
    here = length (items_xml (lower x.part) x.items)

    go : (a b : Bool) → (a ≡ true → b ≡ false) → chosen t ps + chosen u ps ≤ chosen (λ m. t m or u m) ps →
        pick a here 0 + chosen t ps + (pick b here 0 + chosen u ps) ≤ pick (a or b) here 0 + chosen (λ m. t m or u m) ps
    go true true k ih = absurd (false≢true (sym (k refl)))
    go true false k ih = omega (arith, ih)
    go false true k ih = omega (arith, ih)
    go false false k ih = omega (arith, ih)

abbrev named : List ℕ → List ℕ → Bool
named n m = same m n

-- the part of a name, in front of others
with_length : (n : List ℕ) (ps l : List RulePart) → length (parts_xml (with_part (part_named n ps) l)) ≤ chosen (named n) ps + length (parts_xml l)
unfolding row_of chosen pick with_part
with_length n [] l = omega arith
with_length n (x ∷ ps) l = go (same n x.part) (same x.part n) (same_either n x.part) (with_length n ps l)
  where
    here : List ℕ
    here = items_xml (lower x.part) x.items

    go : (a b : Bool) → a ≡ b → length (parts_xml (with_part (part_named n ps) l)) ≤ chosen (named n) ps + length (parts_xml l) →
        length (parts_xml (with_part (pick a (Some x) (part_named n ps)) l)) ≤ pick b (length here) 0 + chosen (named n) ps + length (parts_xml l)
    go true true e ih = unfold parts_xml in omega (arith, length_both here (parts_xml l))
    go true false e ih = absurd (false≢true (sym e))
    go false true e ih = absurd (false≢true e)
    go false false e ih = omega (arith, ih)

order_chosen : (ns : List (List ℕ)) → distinct ns ≡ true → (ps : List RulePart) → length (parts_xml (in_order ns ps)) ≤ chosen (λ m. is_one_of m ns) ps
unfolding in_order distinct is_one_of
order_chosen [] h ps = unfold parts_xml in omega arith
order_chosen (n ∷ ns) h ps =
    let d = pick_second (is_one_of n ns) (distinct ns) h in
    let other : (m : List ℕ) → same m n ≡ true → is_one_of m ns ≡ false = λ m e. ap (λ (w : List ℕ). is_one_of w ns) (same_true m n e) ∙ d.0 in
    let both : chosen (named n) ps + chosen (λ m. is_one_of m ns) ps ≤ chosen (λ m. is_one_of m (n ∷ ns)) ps = chosen_apart (named n) (λ m. is_one_of m ns) other ps in
    omega (arith, with_length n ps (in_order ns ps), order_chosen ns d.1 ps, both)

pub order_length : (ns : List (List ℕ)) → distinct ns ≡ true → (ps : List RulePart) → length (parts_xml (in_order ns ps)) ≤ length (parts_xml ps)
order_length ns h ps = omega (arith, order_chosen ns h ps, chosen-length (λ m. is_one_of m ns) ps)

-- ---- a rule

some_length : (l : List (List ℕ)) → is_empty l ≡ false → 1 ≤ length l
some_length [] h = absurd (false≢true (sym h))
some_length (p ∷ l) h = omega arith

pub rule_length : (s : List ℕ) (ps : List RulePart) → read_rule s ≡ Some ps → 15 + length (parts_xml ps) ≤ rate * (length s + 1)
rule_length s ps h =
    let q = and_then-some (read_each read_part (cut_at 59 s)) ruled ps h in
    let e = provided-some _ (in_order part_names q.0) ps q.2 in
    let some-part = some_length (cut_at 59 s) (cut_some 59 s) in
    rw (← e.1) (omega (arith, order_length part_names names_once q.0, parts_length (cut_at 59 s) q.0 q.1, some-part, cut_weight 59 s))
