-- One part of a rule in text, NAME=ITEMS, is read back, and what is read is one.
--     part_read_back
--     part_accepted
--     part_characters    its characters pass a test that the characters of items, = and the comma pass
use Rattle.std.specs.Prelude.{◌≡◌, refl, Bool, true, false, List, [], ◌∷◌, map, ℕ, Option, None, Some}
use Rattle.std.proofs.Common.{sym, arith, ne_eqb}
use Rattle.std.proofs.lemmas.Bool.{false≢true}
use Rattle.octets.specs.Pick.{pick, ◌and◌}
use Rattle.octets.specs.laws.Pick.{and_yes, and_both, within_range}
use Rattle.octets.specs.Scan.{all_of}
use Rattle.octets.specs.laws.Scan.{all_append, all_weaker}
use Rattle.octets.specs.laws.Append.{append_none}
use Rattle.octets.specs.Class.{is_capital, upper}
use Rattle.octets.specs.laws.Letters.{upper_capitals}
use Rattle.octets.specs.Words.{is_empty, holds, none_holds, cut_at, joined_by, each_after}
use Rattle.octets.specs.laws.Words.{cut_joined, all_without, cut_some}
use Rattle.octets.specs.laws.Tables.{row_named, row_passes}
use Rattle.octets.specs.Lists.{every}
use Rattle.octets.specs.laws.Lists.{all_joined, none_holds_lem}
use Rattle.octets.specs.Reading.{and_then, cons_read, read_each}
use Rattle.octets.specs.laws.Reading.{and_then-some, cons_read-some, each_accepted, each_read_back}
use Rattle.octets.specs.Computing.{octets_compute}
use Rattle.octets.specs.Front.{up_to, past, begins_by}
use Rattle.octets.specs.laws.Front.{up_to_front, past_front}
use Rattle.times.specs.Spelling.{is_time_char}
use Rattle.calendar.specs.Calendar.{ical, RuleItem, RulePart}
use Rattle.recur.specs.Parts.{Part, part_table, part_of, is_list_part}
use Rattle.recur.specs.Item.{read_item, write_item, is_for, is_item}
use Rattle.recur.specs.laws.WordLaws.{capital_char}
use Rattle.recur.specs.laws.ItemLaws.{item_read_back, item_accepted, item_characters}
use Rattle.recur.specs.Rule.{rule_part, is_equals, items_of, read_part, write_part, is_amount, is_part}

-- ---- names

names_capital : every (λ (r : Part). all_of is_capital r.name) part_table ≡ true
unfolding every octets_compute
names_capital = refl

-- what has an item is a name in capitals
item_name : (n : List ℕ) (i : RuleItem) → is_item n i ≡ true → all_of is_capital n ≡ true
item_name n i h = go (part_of n) refl h
  where
    go : (o : Option Part) → part_of n ≡ o → is_for o i ≡ true → all_of is_capital n ≡ true
    go None e k = absurd (false≢true k)
    go (Some r) e k =
        rw (← (row_named (λ (r : Part). r.name) n part_table r e)) (row_passes (λ (r : Part). r.name) n (λ (r : Part). all_of is_capital r.name) part_table r names_capital e)

part_name_lem : (n : List ℕ) (is : List RuleItem) → is_part (rule_part n is) ≡ true → all_of is_capital n ≡ true
unfolding ◌and◌ every
part_name_lem n [] h = absurd (false≢true h)
part_name_lem n (i ∷ is) h =
    item_name n i (and_both (is_item n i) (every (is_item n) is) (and_both (is_amount (is_list_part n) (i ∷ is)) (every (is_item n) (i ∷ is)) h).1).0

part-items : (p : RulePart) → is_part p ≡ true → every (is_item p.part) p.items ≡ true
part-items p h = (and_both (is_amount (is_list_part p.part) p.items) (every (is_item p.part) p.items) h).1

capital_equals : (b : ℕ) → is_capital b ≡ true → is_equals b ≡ false
capital_equals b h = ne_eqb b 61 (λ e. let g = within_range 65 90 b h in omega arith)

-- ---- the items of a part

item_lacks_comma : (n : List ℕ) (i : RuleItem) → is_item n i ≡ true → holds 44 (write_item ical i) ≡ false
unfolding is_time_char octets_compute
item_lacks_comma n i h = all_without is_time_char 44 refl (write_item ical i) (item_characters n i h)

-- the characters of items are cut where they were joined
items_cut : (n : List ℕ) (is : List RuleItem) → is_part (rule_part n is) ≡ true → items_of n (joined_by 44 (map (write_item ical) is)) ≡ map (write_item ical) is
unfolding pick ◌and◌ joined_by each_after
items_cut n [] h = absurd (false≢true h)
items_cut n (i ∷ is) h =
    go (is_list_part n) is (and_both (is_amount (is_list_part n) (i ∷ is)) (every (is_item n) (i ∷ is)) h).0
    (none_holds_lem (is_item n) (write_item ical) 44 (item_lacks_comma n) (i ∷ is) (part-items (rule_part n (i ∷ is)) h))
  where
    go : (t : Bool) (l : List RuleItem) → is_amount t (i ∷ l) ≡ true → none_holds 44 (map (write_item ical) (i ∷ l)) ≡ true →
        pick t (cut_at 44 (joined_by 44 (map (write_item ical) (i ∷ l)))) (joined_by 44 (map (write_item ical) (i ∷ l)) ∷ []) ≡ map (write_item ical) (i ∷ l)
    go true l a k = cut_joined 44 (write_item ical i) (map (write_item ical) l) k
    go false [] a k = rw append_none
    go false (j ∷ l) a k = absurd (false≢true a)

pub part_read_back : (p : RulePart) → is_part p ≡ true → read_part (write_part p) ≡ Some p
unfolding begins_by and_then
part_read_back p h =
    let n = p.part in
    let v = joined_by 44 (map (write_item ical) p.items) in
    let c = part_name_lem n p.items h in
    rw (
      up_to_front is_equals is_capital capital_equals n (61 ∷ v) c refl,
      past_front is_equals is_capital capital_equals n v 61 c refl,
      upper_capitals n c,
      items_cut n p.items h,
      each_read_back (read_item ical n) (is_item n) (write_item ical) (item_read_back ical n) p.items (part-items p h),
    )

-- there is one item at least, and one only where there is no list
several_amount : (reading : List ℕ → Option RuleItem) (ss : List (List ℕ)) (is : List RuleItem) → is_empty ss ≡ false → read_each reading ss ≡ Some is → is_amount true is ≡ true
unfolding read_each pick
several_amount reading [] is e h = absurd (false≢true (sym e))
several_amount reading (s ∷ ss) is e h =
    let a = and_then-some (reading s) (λ i. cons_read i (read_each reading ss)) is h in
    let f = cons_read-some a.0 (read_each reading ss) is a.2 in
    rw (← f.2)

one_amount : (reading : List ℕ → Option RuleItem) (s : List ℕ) (is : List RuleItem) → read_each reading (s ∷ []) ≡ Some is → is_amount false is ≡ true
unfolding read_each cons_read pick
one_amount reading s is h =
    let a = and_then-some (reading s) (λ i. Some (i ∷ [])) is h in
    let z : a.0 ∷ [] ≡ is = cc a.2 in
    rw (← z)

items_amount : (n v : List ℕ) (is : List RuleItem) → read_each (read_item ical n) (items_of n v) ≡ Some is → is_amount (is_list_part n) is ≡ true
unfolding pick
items_amount n v is h = go (is_list_part n) h
  where
    go : (t : Bool) → read_each (read_item ical n) (pick t (cut_at 44 v) (v ∷ [])) ≡ Some is → is_amount t is ≡ true
    go true k = several_amount (read_item ical n) (cut_at 44 v) is (cut_some 44 v) k
    go false k = one_amount (read_item ical n) v is k

pub part_accepted : (s : List ℕ) (p : RulePart) → read_part s ≡ Some p → is_part p ≡ true
part_accepted s p h =
    let n = upper (up_to is_equals s) in
    let v = past is_equals s in
    let e = and_then-some (read_each (read_item ical n) (items_of n v)) (λ is. Some (rule_part n is)) p h in
    let z : rule_part n e.0 ≡ p = cc e.2 in
    rw (← z)
    (and_yes (is_amount (is_list_part n) e.0) (every (is_item n) e.0)
    (items_amount n v e.0 e.1)
    (each_accepted (read_item ical n) (is_item n) (item_accepted ical n) (items_of n v) e.0 e.1))

-- ---- the characters

pub part_characters : (q : ℕ → Bool) → ((s : List ℕ) → all_of is_time_char s ≡ true → all_of q s ≡ true) → q 61 ≡ true → q 44 ≡ true →
    (p : RulePart) → is_part p ≡ true → all_of q (write_part p) ≡ true
unfolding all_of pick
part_characters q k e c p h =
    let n = p.part in
    all_append q n (61 ∷ joined_by 44 (map (write_item ical) p.items)) (k n (all_weaker is_capital is_time_char capital_char n (part_name_lem n p.items h)))
    (rw e (all_joined (is_item n) (write_item ical) q 44 c (λ i g. k (write_item ical i) (item_characters n i g)) p.items (part-items p h)))
