-- The text of a recurrence rule, by the size of its elements: an item for each of them. A part's name is written once, and stands in each of its elements.
--     item_length    the text of an item
--     rule_length    the text of a rule
use Rattle.std.specs.Prelude.{◌≡◌, refl, Bool, true, false, List, [], ◌∷◌, map, ℕ, ◌+◌, ◌*◌, ◌≤◌, leb, length, Option, None, Some}
use Rattle.std.proofs.Common.{ap, leb-true}
use native.Mathlib.Omega.{arith}
use Rattle.octets.specs.Pick.{pick}
use Rattle.octets.specs.laws.Pick.{pick_either}
use Rattle.octets.specs.laws.Append.{length_both}
use Rattle.octets.specs.Class.{is_alpha, lower}
use Rattle.octets.specs.Words.{same, is_one_of, joined_by}
use Rattle.octets.specs.laws.Words.{same_true}
use Rattle.octets.specs.Lists.{every, distinct}
use Rattle.octets.specs.laws.Lists.{every_both}
use Rattle.octets.specs.Reading.{and_then, read_or}
use Rattle.octets.specs.laws.Reading.{provided-some, and_then-some}
use Rattle.octets.specs.Computing.{octets_compute}
use Rattle.octets.specs.Front.{up_to, from_on}
use Rattle.octets.specs.laws.Letters.{lower-length}
use Rattle.calendar.specs.Calendar.{ical, xcal, Whole, RuleItem, moment, number, word, weekday, RulePart}
use Rattle.times.specs.Date.{is_date, read_date, write_date}
use Rattle.times.specs.DateTime.{read_date_time, write_date_time}
use Rattle.recur.specs.Parts.{ItemForm, word_of, enddate, counting, unsigned, signed, weekdaynum, part_names, part_of, weekdays}
use Rattle.recur.specs.Item.{read_word, read_counting, read_unsigned, read_signed, read_ordinal, write_ordinal, or_other, read_enddate, read_form, write_item, read_item}
use Rattle.recur.specs.Rule.{rule_part, write_part, write_rule}
use Rattle.xml.specs.Nodes.{Nodes, no_nodes, element, literal, referred, characters_of}
use Rattle.xcal.specs.ValueNodes.{items_of, one_part, parts_of}
use Rattle.lengths_xml.specs.laws.Pieces.{weight, joined_within}
use Rattle.lengths_xml.specs.laws.Rules.{Counted, counting_read, unsigned_read, signed_read, ordinal_read, split_length}
use Rattle.lengths_text.specs.laws.Bytes.{name_bytes, name_length}
use Rattle.lengths_text.specs.laws.Sizes.{size, characters_size, part, named, parts, parts-size}
use Rattle.lengths_text.specs.laws.Values.{date_kept, date_time_kept}

-- ---- an item

enddate_kept : (s m : List ℕ) → read_enddate xcal s ≡ Some m → length m ≤ length s
enddate_kept s m h = go (read_date xcal s) refl h
  where
    go : (o : Option (List ℕ)) → read_date xcal s ≡ o → or_other o (read_date_time xcal s) ≡ Some m → length m ≤ length s
    go None e k = date_time_kept s m k
    go (Some d) e k = let q : d ≡ m = cc in rw (← q) (date_kept s d e)

enddate_written : (m : List ℕ) → length (write_item ical (moment m)) ≡ length m
unfolding write_date write_date_time
enddate_written m = pick_either (λ (l : List ℕ). length l ≡ length m) (is_date m) m m refl refl

word_length : (ws : List (List ℕ)) (s w : List ℕ) → read_word xcal ws s ≡ Some w → length w ≡ length s
word_length ws s w h = rw (← (provided-some (is_one_of s ws) s w h).1)

number_length : (o : Option Whole) (s : List ℕ) (i : RuleItem) → ((w : Whole) → o ≡ Some w → Counted s w) → and_then o (λ w. Some (number w)) ≡ Some i →
    length (write_item ical i) ≤ length s + 1
number_length o s i f h =
    let q = and_then-some o (λ w. Some (number w)) i h in
    let e : number q.0 ≡ i = cc q.2 in
    rw (← e) (f q.0 q.1).1

form_length : (k : ItemForm) (s : List ℕ) (i : RuleItem) → read_form xcal k s ≡ Some i → length (write_item ical i) ≤ length s + 1
form_length (word_of ws) s i h =
    let q = and_then-some (read_word xcal ws s) (λ w. Some (word w)) i h in
    let e : word q.0 ≡ i = cc q.2 in
    rw (← e) (omega (arith, word_length ws s q.0 q.1))
form_length enddate s i h =
    let q = and_then-some (read_enddate xcal s) (λ m. Some (moment m)) i h in
    let e : moment q.0 ≡ i = cc q.2 in
    rw (← e) (omega (arith, enddate_kept s q.0 q.1, enddate_written q.0))
form_length counting s i h = number_length (read_counting s) s i (counting_read s) h
form_length (unsigned d lo hi) s i h = number_length (read_unsigned d lo hi s) s i (unsigned_read d lo hi s) h
form_length (signed d hi) s i h = number_length (read_signed d hi s) s i (signed_read d hi s) h
form_length weekdaynum s i h =
    let p = and_then-some (read_ordinal (up_to is_alpha s)) (λ o. and_then (read_word xcal weekdays (from_on is_alpha s)) (λ d. Some (weekday o d))) i h in
    let q = and_then-some (read_word xcal weekdays (from_on is_alpha s)) (λ d. Some (weekday p.0 d)) i p.2 in
    let e : weekday p.0 q.0 ≡ i = cc q.2 in
    let word = word_length weekdays (from_on is_alpha s) q.0 q.1 in
    rw (← e) (omega (arith, length_both (write_ordinal p.0) q.0, ordinal_read (up_to is_alpha s) p.0 p.1, word, split_length is_alpha s))

pub item_length : (n s : List ℕ) → length (write_item ical (read_or (word []) (read_item xcal n s))) ≤ length s + 1
unfolding read_or
item_length n s = go (read_item xcal n s) refl
  where
    go : (o : Option RuleItem) → read_item xcal n s ≡ o → length (write_item ical (read_or (word []) o)) ≤ length s + 1
    go None e = omega arith
    go (Some i) e = let q = and_then-some (part_of n) (λ r. read_form xcal r.form s) i e in form_length q.0.form s i q.2

-- ---- a part

-- the text of the items of a part n, with a separator after each, and the part's name with `=` and a separator
unfoldable spent : List ℕ → List RuleItem → ℕ
spent n [] = 0
spent n (i ∷ is) = length n + 3 + length (write_item ical i) + spent n is

items_weight : (n : List ℕ) (is : List RuleItem) → weight (map (write_item ical) is) ≤ spent n is
unfolding weight spent
items_weight n [] = omega arith
items_weight n (i ∷ is) = omega (arith, items_weight n is)

part_length : (n : List ℕ) (i : RuleItem) (is : List RuleItem) → length (write_part (rule_part n (i ∷ is))) + 1 ≤ spent n (i ∷ is)
unfolding weight spent
part_length n i is =
    let l : List ℕ = joined_by 44 (map (write_item ical) (i ∷ is)) in
    omega (arith, length_both n (61 ∷ l), joined_within 44 (map (write_item ical) (i ∷ is)), items_weight n is)

items_length : (n : List ℕ) → 4 ≤ length n → (ns : Nodes) → spent n (items_of n ns) ≤ 2 * part (named (lower n)) ns
unfolding items_of part spent pick
items_length n l no_nodes = omega arith
items_length n l (literal p b more) = items_length n l more
items_length n l (referred p bs more) = items_length n l more
items_length n l (element p m x kids more) = go (same m (lower n)) refl (items_length n l more)
  where
    i : RuleItem
    i = read_or (word []) (read_item xcal n (characters_of kids))

    go : (t : Bool) → same m (lower n) ≡ t → spent n (items_of n more) ≤ 2 * part (named (lower n)) more →
        spent n (pick t (i ∷ items_of n more) (items_of n more)) ≤ 2 * (pick t (name_bytes m + 2 + size kids) 0 + part (named (lower n)) more)
    go true e ih = omega (arith, ih, ap length (same_true m (lower n) e), lower-length n, name_length m, item_length n (characters_of kids), characters_size kids)
    go false e ih = omega (arith, ih)

-- ---- a rule

one_length : (n : List ℕ) (is : List RuleItem) (ps : List RulePart) → weight (map write_part (one_part n is ps)) ≤ spent n is + weight (map write_part ps)
unfolding weight
one_length n [] ps = omega arith
one_length n (i ∷ is) ps = omega (arith, part_length n i is)

parts_length : (names : List (List ℕ)) → every (λ n. leb 4 (length n)) names ≡ true → (ns : Nodes) → weight (map write_part (parts_of names ns)) ≤ 2 * parts (map lower names) ns
unfolding parts_of parts
parts_length [] h ns = unfold weight in omega arith
parts_length (n ∷ names) h ns =
    let q = every_both (λ n. leb 4 (length n)) n names h in
    omega (arith, one_length n (items_of n ns) (parts_of names ns), items_length n (leb-true 4 (length n) q.0) ns, parts_length names q.1 ns)

long_names : every (λ n. leb 4 (length n)) part_names ≡ true
unfolding octets_compute
long_names = refl

distinct_names : distinct (map lower part_names) ≡ true
unfolding octets_compute
distinct_names = refl

pub rule_length : (ns : Nodes) → length (write_rule (parts_of part_names ns)) ≤ 2 * size ns
rule_length ns =
    omega (arith, joined_within 59 (map write_part (parts_of part_names ns)), parts_length part_names long_names ns, parts-size (map lower part_names) distinct_names ns)
