-- Laws of what specs/Items.antt defines.
--     each_read        each of a list is read
--     numbered_at, numbered_beyond    the entries of the code's table
--     item_number, item_string        an item, by what its part has
--     items_good, items_bad           several items;   part_array, part_alone: with an array or without
--     place_found      the number of a name in the table of small letters
use Rattle.std.specs.Prelude.{◌≡◌, Bool, ℕ, suc, ◌≤◌, eqb, length, get_or, Option, None, Some, is_some}
use Rattle.std.proofs.Math.Path.{refl, sym}
use Rattle.std.proofs.Common.{ap, ◌∙◌, rules}
use Rattle.std.proofs.Math.Bool.{true, false}
use Rattle.std.proofs.lemmas.Bool.{false≢true}
use mathlib.Core.List.{List, [], ◌∷◌, map}
use Rattle.std.proofs.Math.ListN.{get_or-map}
use Rattle.octets.specs.Ascii.{ascii}
use Rattle.octets.specs.Pick.{pick, ◌and◌}
use Rattle.octets.specs.Class.{upper, lower}
use Rattle.octets.specs.laws.Letters.{lower_any_case}
use Rattle.octets.specs.Words.{same, is_empty}
use Rattle.octets.specs.laws.Words.{same_self, same_true}
use Rattle.octets.specs.Lists.{every}
use Rattle.octets.specs.laws.Lists.{every_both}
use Rattle.octets.specs.Reading.{provided, and_then, is_read, read_or, cons_read, read_each}
use Rattle.octets.specs.laws.Reading.{and_then-some, cons_read-some, each_empty}
use Rattle.octets.specs.Computing.{octets_compute}
use Rattle.calendar.specs.Calendar.{xcal, RuleItem}
use Rattle.names.specs.Table.{place_of, names_in}
use Rattle.recur.specs.Parts.{ItemForm, word_of, enddate, counting, unsigned, signed, weekdaynum, Part, part_of, part_table, part_names, is_listed}
use Rattle.recur.specs.Item.{read_form}
use Rattle.recur.specs.Item as text
use Rattle.recur.specs.Rule.{rule_part, is_amount}
use Rattle.recur.specs.Fits.{item_read}
use Rattle.recur.specs.laws.Fits.{part_at, beyond, provided_is}
use Rattle.recur.specs.laws.PieceLaws.{cons_read_lem}
use Rattle.json_text.specs.Tree.{Json, first_of, element_list}
use Rattle.json_text.specs.Kinds.{as_string, as_number}
use Rattle.jcal.specs.Values.{item_text, read_item, read_items}
use Rattle.read_json.specs.TreeAt.{elements_at}
use Rattle.read_json.specs.Heads.{value_of_head, HeadAt, NextAt}
use Rattle.read_json.specs.Kinds.{is_there, is_array}
use Rattle.read_json.specs.declared.Head.{Head}
use Rattle.read_jcal_value.specs.Elements.{string_of, number_of}
use Rattle.read_jcal_value.specs.laws.Elements.{array_by, list_over, list_here, list_more, first_value, stands_head}
use Rattle.read_jcal_value.specs.Items.{numbered, is_numbered, item_in, amounts, items_in, part_in, part_place}

pub each_read : {A B : Type 0} (f : A → Option B) (l : List A) → is_read (read_each f l) ≡ every (λ a. is_read (f a)) l
unfolding read_each every is_read
each_read f [] = refl
each_read f (a ∷ l) = cons_read_lem (f a) (read_each f l) ∙ rw (each_read f l)

-- ---- what an item is

pub numbered_at : (i : ℕ) → eqb (get_or (0 ∷ 0 ∷ 1 ∷ 1 ∷ 1 ∷ 1 ∷ 1 ∷ 0 ∷ 1 ∷ 1 ∷ 1 ∷ 1 ∷ 1 ∷ 0 ∷ []) i 0) 1 ≡ is_numbered (part_of (get_or part_names i []))
unfolding octets_compute
numbered_at i =
    sym (get_or-map (λ (x : ℕ). eqb x 1) (0 ∷ 0 ∷ 1 ∷ 1 ∷ 1 ∷ 1 ∷ 1 ∷ 0 ∷ 1 ∷ 1 ∷ 1 ∷ 1 ∷ 1 ∷ 0 ∷ []) i 0)
    ∙ get_or-map (λ (n : List ℕ). is_numbered (part_of n)) part_names i []

no_part : (i : ℕ) → 14 ≤ i → part_of (get_or part_names i []) ≡ None
no_part i h = part_at i ∙ beyond (map (λ (r : Part). Some r) part_table) i h

pub numbered_beyond : (i : ℕ) → 14 ≤ i → false ≡ is_numbered (part_of (get_or part_names i []))
numbered_beyond i h = sym (rw (no_part i h))

form_number : (f : ItemForm) (v : Json) → numbered f ≡ true → item_text f v ≡ as_number v
form_number (word_of ws) v h = absurd (false≢true h)
form_number enddate v h = absurd (false≢true h)
form_number counting v h = refl
form_number (unsigned d lo hi) v h = refl
form_number (signed d hi) v h = refl
form_number weekdaynum v h = absurd (false≢true h)

form_string : (f : ItemForm) (v : Json) → numbered f ≡ false → item_text f v ≡ as_string v
form_string (word_of ws) v h = refl
form_string enddate v h = refl
form_string counting v h = absurd (false≢true (sym h))
form_string (unsigned d lo hi) v h = absurd (false≢true (sym h))
form_string (signed d hi) v h = absurd (false≢true (sym h))
form_string weekdaynum v h = refl

by_number : (o : Option Part) (v : Json) → is_numbered o ≡ true →
    is_read (and_then o (λ r. read_item r v)) ≡ is_read (and_then (as_number v) (λ l. and_then o (λ (r : Part). read_form xcal r.form l)))
unfolding and_then
by_number None v h = absurd (false≢true h)
by_number (Some r) v h = rw (form_number r.form v h)

by_string : (o : Option Part) (v : Json) → is_numbered o ≡ false →
    is_read (and_then o (λ r. read_item r v)) ≡ is_read (and_then (as_string v) (λ l. and_then o (λ (r : Part). read_form xcal r.form l)))
unfolding and_then is_read
by_string None v h = go (as_string v)
  where
    go : (a : Option (List ℕ)) → false ≡ is_read {A = RuleItem} (and_then a (λ l. None))
    go None = refl
    go (Some l) = refl
by_string (Some r) v h = rw (form_string r.form v h)

module _ (i : ℕ) (s : List ℕ) (h : Head) {b : Bool} (e : b ≡ is_numbered (part_of (get_or part_names i []))) {r : Bool} where
  pub item_number : b ≡ true → r ≡ is_read (and_then (number_of s h) (text.read_item xcal (get_or part_names i []))) → r ≡ item_in i (value_of_head s h)
  unfolding item_in number_of
  item_number q g = g ∙ sym (by_number (part_of (get_or part_names i [])) (value_of_head s h) (sym e ∙ q))

  pub item_string : b ≡ false → r ≡ is_read (and_then (string_of s h) (text.read_item xcal (get_or part_names i []))) → r ≡ item_in i (value_of_head s h)
  unfolding item_in string_of
  item_string q g = g ∙ sym (by_string (part_of (get_or part_names i [])) (value_of_head s h) (sym e ∙ q))

pub ruleset itemizing = (item_number, item_string, rules)

-- what `read_item` answers
pub item_told : (i : ℕ) {b : Bool} {r : Option ℕ} → r ≡ item_read i b → {c : Bool} → c ≡ is_some r → c ≡ b
item_told i {b} e f = f ∙ ap is_some e ∙ go b
  where
    go : (b : Bool) → is_some (item_read i b) ≡ b
    go true = refl
    go false = refl

-- ---- several items

module _ (r : Part) where
  amount_is : (vs : List Json) (is : List RuleItem) → read_each (read_item r) vs ≡ Some is → is_amount r.listed is ≡ amounts r.listed vs
  unfolding read_each
  amount_is [] is h = let z : [] ≡ is = cc in rw (← z)
  amount_is (v ∷ vs) is h =
      let e = and_then-some (read_item r v) (λ b. cons_read b (read_each (read_item r) vs)) is h in
      let f = cons_read-some e.0 (read_each (read_item r) vs) is e.2 in
      rw (← f.2, each_empty (read_item r) vs f.0 f.1)

  items_of : (vs : List Json) → is_read (read_items r vs) ≡ (every (λ v. is_read (read_item r v)) vs and amounts r.listed vs)
  unfolding and_then is_read ◌and◌
  items_of vs = rw (← (each_read (read_item r) vs)) (go (read_each (read_item r) vs) refl)
    where
      go : (o : Option (List RuleItem)) → read_each (read_item r) vs ≡ o →
          is_read (and_then o (λ is. provided (is_amount r.listed is) (rule_part r.name is))) ≡ (is_read o and amounts r.listed vs)
      go None q = refl
      go (Some is) q = provided_is (is_amount r.listed is) (rule_part r.name is) ∙ amount_is vs is q

items_by : (o : Option Part) (vs : List Json) →
    is_read (and_then o (λ r. read_items r vs)) ≡ (every (λ v. is_read (and_then o (λ r. read_item r v))) vs and amounts (is_listed o) vs)
unfolding and_then is_read every ◌and◌
items_by None [] = refl
items_by None (v ∷ vs) = refl
items_by (Some r) vs = items_of r vs

items_is : (i : ℕ) (vs : List Json) → items_in i vs ≡ (every (item_in i) vs and amounts (is_listed (part_of (get_or part_names i []))) vs)
unfolding items_in item_in
items_is i vs = items_by (part_of (get_or part_names i [])) vs

module _ (i : ℕ) (vs : List Json) {a : Bool} (e : a ≡ every (item_in i) vs) where
  pub items_bad : a ≡ false → false ≡ items_in i vs
  unfolding ◌and◌
  items_bad h = sym (items_is i vs ∙ rw (← e, h))

  pub items_good : {r : Bool} → a ≡ true → r ≡ amounts (is_listed (part_of (get_or part_names i []))) vs → r ≡ items_in i vs
  unfolding ◌and◌
  items_good h g = g ∙ sym (items_is i vs ∙ rw (← e, h))

pub ruleset several = (items_bad, items_good, rules)

-- ---- how many

module _ (l : Bool) {s : List ℕ} {at : ℕ} {h : Head} (t : HeadAt s at h) {c : Bool} (e : c ≡ is_there h.kind) where
  pub amount_none : c ≡ false → false ≡ amounts l (element_list (elements_at s at))
  amount_none z = rw (list_over t e z)

  module _ (z : c ≡ true) {b : Bool} (f : b ≡ l) where
    pub amount_any : b ≡ true → b ≡ amounts l (element_list (elements_at s at))
    unfolding pick
    amount_any q = rw (list_here t e z, ← f, q)

    pub amount_one : {n : ℕ} → NextAt s h n → {r : Bool} → b ≡ false → r ≡ is_empty (element_list (elements_at s n)) → r ≡ amounts l (element_list (elements_at s at))
    unfolding pick
    amount_one d q g = rw (list_more t e z d, ← f, q) g

pub ruleset amounting = (amount_none, amount_any, amount_one, rules)

-- ---- with an array or without

module _ (i : ℕ) {s : List ℕ} {at : ℕ} {h : Head} (t : HeadAt s at h) {c : Bool} (e : c ≡ is_array h.kind) {r : Bool} where
  pub part_array : c ≡ true → r ≡ items_in i (element_list (elements_at s h.next)) → r ≡ part_in i (first_of (elements_at s at))
  unfolding part_in read_or pick
  part_array q g = rw (first_value t, array_by s h.place h.next h.kind, ← e, q) g

  pub part_alone : c ≡ false → r ≡ item_in i (value_of_head s h) → r ≡ part_in i (first_of (elements_at s at))
  unfolding part_in read_or pick every ◌and◌
  part_alone q g =
      rw (first_value t, array_by s h.place h.next h.kind, ← e, q)
      (g ∙ sym (items_is i (value_of_head s h ∷ []) ∙ one (is_listed (part_of (get_or part_names i []))) (item_in i (value_of_head s h))))
    where
      one : (l x : Bool) → ((x and true) and pick l true true) ≡ x
      one true true = refl
      one true false = refl
      one false true = refl
      one false false = refl

pub ruleset parting = (part_array, part_alone, stands_head, rules)

-- ---- the number of a name

small_same : (n c : List ℕ) → upper (lower c) ≡ c → same n (lower c) ≡ (same n (lower n) and same (upper n) c)
unfolding ◌and◌
small_same n c u = go (same n (lower c)) refl
  where
    back : same n (lower n) ≡ true → same (upper n) c ≡ true → same n (lower c) ≡ true
    back a b =
        let x : n ≡ lower n = same_true n (lower n) a in
        let y : upper n ≡ c = same_true (upper n) c b in
        let z : lower c ≡ n = ap lower (sym y) ∙ lower_any_case n ∙ sym x in
        rw z (same_self n)

    other : (a b : Bool) → same n (lower n) ≡ a → same (upper n) c ≡ b → same n (lower c) ≡ false → false ≡ (a and b)
    other true true p q f = absurd (false≢true (sym f ∙ back p q))
    other true false p q f = refl
    other false b p q f = refl

    go : (t : Bool) → same n (lower c) ≡ t → t ≡ (same n (lower n) and same (upper n) c)
    go true e =
        let x : n ≡ lower c = same_true n (lower c) e in
        let y : lower (lower c) ≡ lower c = sym (lower_any_case (lower c)) ∙ ap lower u in
        rw (x, y, u, same_self (lower c), same_self c)
    go false e = other (same n (lower n)) (same (upper n) c) refl refl e

small_place : (n : List ℕ) (ns : List (List ℕ)) → every (λ c. same (upper (lower c)) c) ns ≡ true →
    place_of n (map lower ns) ≡ pick (same n (lower n)) (place_of (upper n) ns) (length ns)
unfolding place_of pick ◌and◌
small_place n [] h = go (same n (lower n))
  where
    go : (b : Bool) → ◌≡◌ {A = ℕ} 0 (pick b 0 0)
    go true = refl
    go false = refl
small_place n (c ∷ ns) h =
    let e = every_both (λ c. same (upper (lower c)) c) c ns h in
    rw (small_same n c (same_true (upper (lower c)) c e.0), small_place n ns e.1) (go (same n (lower n)) (same (upper n) c))
  where
    go : (a b : Bool) → pick (a and b) 0 (suc (pick a (place_of (upper n) ns) (length ns))) ≡ pick a (pick b 0 (suc (place_of (upper n) ns))) (suc (length ns))
    go true true = refl
    go true false = refl
    go false b = refl

part_words : names_in (ascii "freq\nuntil\ncount\ninterval\nbysecond\nbyminute\nbyhour\nbyday\nbymonthday\nbyyearday\nbyweekno\nbymonth\nbysetpos\nwkst\n") ≡ map lower part_names
unfolding names_in octets_compute
part_words = refl

small_names : every (λ c. same (upper (lower c)) c) part_names ≡ true
unfolding octets_compute
small_names = refl

pub place_found : (n : List ℕ) {r : ℕ} →
    r ≡ place_of n (names_in (ascii "freq\nuntil\ncount\ninterval\nbysecond\nbyminute\nbyhour\nbyday\nbymonthday\nbyyearday\nbyweekno\nbymonth\nbysetpos\nwkst\n")) → r ≡ part_place n
unfolding part_place
place_found n e = e ∙ rw part_words (small_place n part_names small_names)
