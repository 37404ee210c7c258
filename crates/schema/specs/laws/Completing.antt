-- Laws of what specs/Completing.antt defines.
--     action_none, action_some     for code: the words of ACTION are a closed set
--     complete-tallies, method_tallies  they are what Counts says of the properties
--     halves_often, Testing     for code: the table in two halves, and the loop over one
use Rattle.std.specs.Prelude.{◌≡◌, refl, Bool, true, false, ℕ, zero, suc, ◌+◌, ◌-◌, ◌≤◌, ◌<◌, min, eqb, leb, ltb, length, get_or, Option, None, Some}
use Rattle.std.proofs.Math.Path.{sym, ap}
use Rattle.std.proofs.Common.{◌∙◌, not-suc-le-zero, le_of_suc-le-suc, arith, rules, eqb-true, eq-eqb, ne_eqb, le-leb, leb-true, leb-false, ltb-true, ltb-false}
use Rattle.std.proofs.lemmas.Bool.{false≢true, lt-leb}
use mathlib.Core.List.{List, [], ◌∷◌, map}
use Rattle.std.proofs.Math.Decide.{dec_le}
use Rattle.std.proofs.Math.ListN.{get_or-map, get_or-eq_default}
use Rattle.bits.specs.Masks.{has}
use Rattle.octets.specs.Ascii.{ascii}
use Rattle.octets.specs.Pick.{pick, ◌and◌, ◌or◌}
use Rattle.octets.specs.laws.Pick.{and_both, pick_take, pick_skip}
use Rattle.octets.specs.Words.{is_one_of}
use Rattle.octets.specs.Lists.{every}
use Rattle.octets.specs.Reading.{and_then}
use Rattle.octets.specs.Computing.{octets_compute}
use Rattle.names.specs.Table.{place_of, nth}
use Rattle.names.specs.laws.Table.{row_then}
use Rattle.calendar.specs.Calendar.{Property}
use Rattle.schema.specs.Components.{Occurrence, ComponentRow, component_table, component_names, unknown_component, alarm_table, list_in, occurrences_of, alarm_occurrences, is_alarm}
use Rattle.schema.specs.Properties.{PropertyRow, property_table, unrecognised_property, property_names}
use Rattle.schema.specs.Counts.{tally, occurrence_in, is_at_most, is_often, each_often, Around, method_for, pairs_of, action_of, list_for, often_for, complete}
use Rattle.schema.specs.laws.Tallies.{often_at_lem}
use Rattle.schema.specs.laws.Unknown.{unknown_often}
use Rattle.schema.specs.Numbers.{component_at, property_at, property_name}
use Rattle.schema.specs.laws.Numbers.{component_place}
use Rattle.schema.specs.laws.Cells.{row_at_passes, below_passes}
use Rattle.schema.specs.laws.Columns.{alarm_place}
use Rattle.schema.specs.Sets.{set_of, word_in}
use Rattle.schema.specs.laws.Sets.{calendar_place, event_place, todo_place, timezone_place}
use Rattle.schema.specs.Arrays.{tallies, each_from}
use Rattle.schema.specs.laws.Arrays.{tally_count, from_list, from_more, from_stop, from_end}
use Rattle.schema.specs.Computing.{schema_compute}
use Rattle.schema.specs.Coded.{columns, coded, first_half, second_half}
use Rattle.schema.specs.laws.Halving.{get_d_any, first_at, second_at}
use Rattle.schema.specs.Completing.{often_in, half_often, all_often, often_at, pairs_at, complete_at, method_at, list_of, alarm_often, action_names, action_at, action_named, alarm_action}
use Rattle.schema.specs.Property as property
use Rattle.schema.specs.declared.table.Entry.{Entry}
use Rattle.schema.specs.declared.Action.{Action}
use Rattle.schema.specs.declared.Action.TheVariants.{Audio, Display, Email}

action_set : (w : List ℕ) → word_in (set_of (Some 4)) w ≡ word_in (Some action_names) w
unfolding nth and_then
action_set w = refl

module _ (w : List ℕ) {r : Option ℕ} (e : r ≡ word_in (set_of (Some 4)) w) where
  pub action_none : r ≡ None → None ≡ action_named w
  unfolding and_then
  action_none h = rw (← (action_set w), ← e, h)

  pub action_some : {i : ℕ} {a : Action} → r ≡ Some i → a ≡ action_at i → Some a ≡ action_named w
  unfolding and_then
  action_some h f = rw (← (action_set w), ← e, h, f)

-- ---- how often

-- in one of the five ways
abbrev plain_by : ℕ → Option ℕ → Bool
plain_by l None = leb l 1
plain_by l (Some m) = leb m 1 and leb l m

abbrev is_plain : Occurrence → Bool
is_plain o = plain_by o.least o.most

leb_agree : (a b c d : ℕ) → (a ≤ b → c ≤ d) → (c ≤ d → a ≤ b) → leb a b ≡ leb c d
leb_agree a b c d f g = go (leb a b) (leb c d) refl refl
  where
    go : (x y : Bool) → leb a b ≡ x → leb c d ≡ y → x ≡ y
    go true true p q = refl
    go true false p q = sym (le-leb c d (f (leb-true a b p))) ∙ q
    go false true p q = sym p ∙ le-leb a b (g (leb-true c d q))
    go false false p q = refl

eqb_agree : (a b c d : ℕ) → (a ≡ b → c ≡ d) → (c ≡ d → a ≡ b) → eqb a b ≡ eqb c d
eqb_agree a b c d f g = go (eqb a b) (eqb c d) refl refl
  where
    go : (x y : Bool) → eqb a b ≡ x → eqb c d ≡ y → x ≡ y
    go true true p q = refl
    go true false p q = sym (eq-eqb c d (f (eqb-true a b p))) ∙ q
    go false true p q = sym p ∙ eq-eqb a b (g (eqb-true c d q))
    go false false p q = refl

-- an entry's masks, as least and most
abbrev least_in : Entry → ℕ → ℕ
least_in e l = pick (has e.least l) 1 0

abbrev most_in : Entry → ℕ → Option ℕ
most_in e l = pick (has e.many l) None (Some (pick (has e.once l) 1 0))

one_at_most : (n : ℕ) → 1 ≤ n → eqb n 1 ≡ leb n 1
one_at_most n k = go (leb n 1) refl
  where
    go : (b : Bool) → leb n 1 ≡ b → eqb n 1 ≡ b
    go true e = eq-eqb n 1 (omega (arith, k, leb-true n 1 e))
    go false e = ne_eqb n 1 (λ q. omega (arith, q, leb-false n 1 e))

often_some : (n : ℕ) → 1 ≤ n → (least many once : Bool) →
    pick many true (pick once (eqb n 1) false) ≡ (leb (pick least 1 0) n and is_at_most (pick many None (Some (pick once 1 0))) n)
unfolding pick ◌and◌
often_some n k true true once = rw (le-leb 1 n k)
often_some n k false true once = rw (le-leb 0 n (omega arith))
often_some n k true false true = rw (le-leb 1 n k) (one_at_most n k)
often_some n k false false true = rw (le-leb 0 n (omega arith)) (one_at_most n k)
often_some n k true false false = rw (le-leb 1 n k, lt-leb n 0 k)
often_some n k false false false = rw (le-leb 0 n (omega arith), lt-leb n 0 k)

often_none : (least many once : Bool) → pick least false true ≡ (leb (pick least 1 0) 0 and is_at_most (pick many None (Some (pick once 1 0))) 0)
unfolding pick ◌and◌
often_none true many once = refl
often_none false true once = refl
often_none false false true = refl
often_none false false false = refl

often_by : (least many once : Bool) (n : ℕ) →
    pick (eqb n 0) (pick least false true) (pick many true (pick once (eqb n 1) false)) ≡ (leb (pick least 1 0) n and is_at_most (pick many None (Some (pick once 1 0))) n)
often_by least many once n = go (dec_le 1 n)
  where
    go : Dec (1 ≤ n) → pick (eqb n 0) (pick least false true) (pick many true (pick once (eqb n 1) false)) ≡ (leb (pick least 1 0) n and is_at_most (pick many None (Some (pick once 1 0))) n)
    go (yes k) = sym (pick_skip _ _ _ (ne_eqb n 0 (λ e. omega (arith, k, e))) (sym (often_some n k least many once)))
    go (no k) = let z : n ≡ 0 = omega (arith, k) in sym (pick_take _ _ _ (eq-eqb n 0 z) (rw z (sym (often_none least many once))))

often_is : (e : Entry) (l n : ℕ) → often_in e l n ≡ (leb (least_in e l) n and is_at_most (most_in e l) n)
unfolding often_in
often_is e l n = often_by (has e.least l) (has e.many l) (has e.once l) n

-- counted to 255
saturated : (l : ℕ) (m : Option ℕ) (n : ℕ) → plain_by l m ≡ true → (leb l (min 255 n) and is_at_most m (min 255 n)) ≡ (leb l n and is_at_most m n)
saturated l None n h = rw (leb_agree l (min 255 n) l n (λ k. omega arith) (λ k. omega (arith, leb-true l 1 h)))
saturated l (Some m) n h =
    let p : m ≤ 1 = leb-true m 1 (and_both (leb m 1) (leb l m) h).0 in
    let q : l ≤ m = leb-true l m (and_both (leb m 1) (leb l m) h).1 in
    rw (leb_agree l (min 255 n) l n (λ k. omega arith) (λ k. omega arith), leb_agree (min 255 n) m n m (λ k. omega arith) (λ k. omega arith))

unfoldable pub even_most : Option ℕ → Option ℕ → Bool
even_most None None = true
even_most None (Some n) = false
even_most (Some m) None = false
even_most (Some m) (Some n) = eqb m n

pub most_is : (a b : Option ℕ) → even_most a b ≡ true → a ≡ b
unfolding even_most
most_is None None h = refl
most_is None (Some n) h = absurd (false≢true h)
most_is (Some m) None h = absurd (false≢true h)
most_is (Some m) (Some n) h = ap Some (eqb-true m n h)

-- the masks of a row say what the list says of its name, and that is one of the five ways
often_masked : PropertyRow → ℕ → Bool
often_masked r l =
    eqb (least_in (coded r) l) (occurrence_in (list_in l) r.name).least and even_most (most_in (coded r) l) (occurrence_in (list_in l) r.name).most
    and is_plain (occurrence_in (list_in l) r.name)

all_masked : every (λ r. each_from 0 12 (often_masked r)) property_table ≡ true
unfolding schema_compute columns often_masked even_most
all_masked = refl

often_same : (e : Entry) (l c least : ℕ) (most : Option ℕ) → least_in e l ≡ least → most_in e l ≡ most → plain_by least most ≡ true →
    often_in e l (min 255 c) ≡ (leb least c and is_at_most most c)
often_same e l c least most f g p = rw (often_is e l (min 255 c), f, g) (saturated least most c p)

often_entry : (l j c : ℕ) → l < 12 → j < 46 → often_in (coded (property_at j)) l (min 255 c) ≡ is_often (occurrence_in (list_in l) (property_name j)) c
unfolding often_masked
often_entry l j c h k =
    let a = below_passes (often_masked (property_at j)) 12 l (row_at_passes (λ r. each_from 0 12 (often_masked r)) unrecognised_property property_table j all_masked k) h in
    let b = and_both _ _ (and_both _ _ a).1 in
    let w : List ℕ = (property_at j).name in
    rw (get_or-map (λ r. r.name) property_table j unrecognised_property)
    (often_same (coded (property_at j)) l c (occurrence_in (list_in l) w).least (occurrence_in (list_in l) w).most (eqb-true _ _ (and_both _ _ a).0) (most_is _ _ b.0) b.1)

-- ---- every property by itself

often_every : (ws : List (List ℕ)) (os : List Occurrence) (ps : List Property) → each_often ws os ps ≡ every (λ w. is_often (occurrence_in os w) (tally w ps)) ws
unfolding each_often every
often_every [] os ps = refl
often_every (w ∷ ws) os ps = rw (often_every ws os ps)

pub all_often_lem : (l : ℕ) (ps : List Property) → l < 12 → all_often l (tallies ps) ≡ each_often property_names (list_in l) ps
unfolding all_often
all_often_lem l ps k =
    from_list property_names [] 0 (λ n. often_in (coded (property_at n)) l (get_or (tallies ps) n 0)) (λ w. is_often (occurrence_in (list_in l) w) (tally w ps)) entry
    ∙ sym (often_every property_names (list_in l) ps)
  where
    entry : (j : ℕ) → j < 46 → often_in (coded (property_at (0 + j))) l (get_or (tallies ps) (0 + j) 0) ≡ is_often (occurrence_in (list_in l) (property_name j)) (tally (property_name j) ps)
    entry j h = let z : 0 + j ≡ j = omega arith in rw (z, tally_count j ps h) (often_entry l j (tally (property_name j) ps) k h)

-- ---- the list that decides

-- the list of a word of ACTION, by its number
alarm_lists : map (λ r. Some r.occurrences) alarm_table ≡ Some (list_in 8) ∷ Some (list_in 9) ∷ Some (list_in 10) ∷ []
alarm_lists = refl

alarm_list : (n : ℕ) → n < 3 → get_or (map (λ r. Some r.occurrences) alarm_table) n None ≡ Some (list_in (n + 8))
alarm_list zero h = refl
alarm_list (suc zero) h = refl
alarm_list (suc (suc zero)) h = refl
alarm_list (suc (suc (suc n))) h = absurd (omega (arith, h))

action_list : (n : ℕ) → n < 3 → list_of (action_at n) ≡ n + 8
unfolding pick
action_list zero h = refl
action_list (suc zero) h = refl
action_list (suc (suc zero)) h = refl
action_list (suc (suc (suc n))) h = absurd (omega (arith, h))

of_alarm : (a : Option (List ℕ)) (ps : List Property) → often_for (and_then a alarm_occurrences) ps ≡ alarm_often (alarm_action a) (tallies ps)
unfolding and_then alarm_occurrences pick
of_alarm None ps = refl
of_alarm (Some w) ps = rw (row_then (λ r. r.action) w (λ r. Some r.occurrences) alarm_table) (go (place_of w action_names) (ltb (place_of w action_names) 3) refl)
  where
    go : (n : ℕ) (b : Bool) → ltb n 3 ≡ b → often_for (get_or (map (λ r. Some r.occurrences) alarm_table) n None) ps ≡ alarm_often (and_then (pick b (Some n) None) (λ i. Some (action_at i))) (tallies ps)
    go n true e = let h = ltb-true n 3 e in rw (alarm_list n h, action_list n h, all_often_lem (n + 8) ps (omega (arith, h)))
    go n false e = rw (get_or-eq_default (map (λ r. Some r.occurrences) alarm_table) None (ltb-false n 3 e))

-- the list of a known component other than VALARM
component_list : (k : ℕ) → k < 9 → eqb k 8 ≡ false → (component_at k).occurrences ≡ list_in k
component_list zero h f = refl
component_list (suc zero) h f = refl
component_list (suc (suc zero)) h f = refl
component_list (suc (suc (suc zero))) h f = refl
component_list (suc (suc (suc (suc zero)))) h f = refl
component_list (suc (suc (suc (suc (suc zero))))) h f = refl
component_list (suc (suc (suc (suc (suc (suc zero)))))) h f = refl
component_list (suc (suc (suc (suc (suc (suc (suc zero))))))) h f = refl
component_list (suc (suc (suc (suc (suc (suc (suc (suc zero)))))))) h f = absurd (false≢true (sym f))
component_list (suc (suc (suc (suc (suc (suc (suc (suc (suc n))))))))) h f = absurd (omega (arith, h))

of_component : (c : List ℕ) (ps : List Property) → eqb (place_of c component_names) 8 ≡ false → each_often property_names (occurrences_of c) ps ≡
    pick (ltb (place_of c component_names) 9) (all_often (place_of c component_names) (tallies ps)) true
unfolding pick
of_component c ps f = ap (λ (r : ComponentRow). each_often property_names r.occurrences ps) (component_place c) ∙ go (place_of c component_names) (ltb (place_of c component_names) 9) refl f
  where
    go : (k : ℕ) (b : Bool) → ltb k 9 ≡ b → eqb k 8 ≡ false → each_often property_names (component_at k).occurrences ps ≡ pick b (all_often k (tallies ps)) true
    go k true e f = let h = ltb-true k 9 e in ap (λ (os : List Occurrence). each_often property_names os ps) (component_list k h f) ∙ sym (all_often_lem k ps (omega (arith, h)))
    go k false e f = ap (λ (r : ComponentRow). each_often property_names r.occurrences ps) (get_or-eq_default component_table unknown_component (ltb-false k 9 e)) ∙ unknown_often ps

often_number : (c : List ℕ) (ps : List Property) → often_for (list_for c ps) ps ≡ often_at (place_of c component_names) (tallies ps) (alarm_action (action_of ps))
unfolding pick
often_number c ps = rw (← (alarm_place c)) (go (is_alarm c) refl)
  where
    go : (b : Bool) → is_alarm c ≡ b → often_for (pick b (and_then (action_of ps) alarm_occurrences) (Some (occurrences_of c))) ps ≡
        pick b (alarm_often (alarm_action (action_of ps)) (tallies ps))
        (pick (ltb (place_of c component_names) 9) (all_often (place_of c component_names) (tallies ps)) true)
    go true e = of_alarm (action_of ps) ps
    go false e = of_component c ps (sym (alarm_place c) ∙ e)

-- ---- pairs

sat : (n k : ℕ) → k < 255 → eqb (min 255 n) k ≡ eqb n k
sat n k h = eqb_agree (min 255 n) k n k (λ e. omega arith) (λ e. omega arith)

pairs_saturated : (e t z a : Bool) (end due start lasting repeat : ℕ) (sub method : Bool) → (a ≡ true → lasting ≤ 1) →
    pick e ((method or eqb (min 255 start) 1) and (eqb (min 255 end) 0 or eqb (min 255 lasting) 0))
    (pick t (eqb (min 255 lasting) 0 or (eqb (min 255 start) 1 and eqb (min 255 due) 0)) (pick z sub (pick a (eqb (min 255 lasting) (min 255 repeat)) true)))
    ≡ pick e ((method or eqb start 1) and (eqb end 0 or eqb lasting 0)) (pick t (eqb lasting 0 or (eqb start 1 and eqb due 0)) (pick z sub (pick a (eqb lasting repeat) true)))
unfolding pick
pairs_saturated true t z a end due start lasting repeat sub method h = rw (sat start 1 (omega arith), sat end 0 (omega arith), sat lasting 0 (omega arith))
pairs_saturated false true z a end due start lasting repeat sub method h = rw (sat lasting 0 (omega arith), sat start 1 (omega arith), sat due 0 (omega arith))
pairs_saturated false false true a end due start lasting repeat sub method h = refl
pairs_saturated false false false true end due start lasting repeat sub method h =
    let l : lasting ≤ 1 = h refl in eqb_agree (min 255 lasting) (min 255 repeat) lasting repeat (λ q. omega arith) (λ q. omega arith)
pairs_saturated false false false false end due start lasting repeat sub method h = refl

pairs_number : (c : List ℕ) (ps : List Property) (around : Around) → (is_alarm c ≡ true → tally (ascii "DURATION") ps ≤ 1) →
    pairs_at (place_of c component_names) (tallies ps) around ≡ pairs_of c ps around
pairs_number c ps around h =
    rw (
      event_place c,
      todo_place c,
      timezone_place c,
      alarm_place c,
      tally_count property.DTEND ps (omega arith),
      tally_count property.DUE ps (omega arith),
      tally_count property.DURATION ps (omega arith),
      tally_count property.DTSTART ps (omega arith),
      tally_count property.REPEAT ps (omega arith),
    )
    (pairs_saturated (eqb (place_of c component_names) 1) (eqb (place_of c component_names) 2) (eqb (place_of c component_names) 5) (eqb (place_of c component_names) 8)
    (tally (ascii "DTEND") ps) (tally (ascii "DUE") ps) (tally (ascii "DTSTART") ps) (tally (ascii "DURATION") ps) (tally (ascii "REPEAT") ps)
    around.inner around.method (λ e. h (alarm_place c ∙ e)))

-- ---- METHOD

pub method_tallies : (c : List ℕ) (ps : List Property) (m : Bool) → method_at (place_of c component_names) (tallies ps) m ≡ method_for c ps m
unfolding method_for
method_tallies c ps m =
    rw (calendar_place c, tally_count property.METHOD ps (omega arith), leb_agree 1 (min 255 (tally (ascii "METHOD") ps)) 1 (tally (ascii "METHOD") ps) (λ k. omega arith) (λ k. omega arith))

-- in a VALARM that is as often as its list says DURATION stands at most once
abbrev pub is_once : Option ℕ → Bool
is_once None = false
is_once (Some m) = leb m 1

pub once_short : (m : Option ℕ) (n : ℕ) → is_once m ≡ true → is_at_most m n ≡ true → n ≤ 1
once_short None n h k = absurd (false≢true h)
once_short (Some m) n h k = omega (arith, leb-true m 1 h, leb-true n m k)

alarm_once : (a : Action) → is_once (occurrence_in (list_in (list_of a)) (ascii "DURATION")).most ≡ true
unfolding schema_compute
alarm_once Audio = refl
alarm_once Display = refl
alarm_once Email = refl

list_within : (a : Action) → list_of a < 12
list_within Audio = omega arith
list_within Display = omega arith
list_within Email = omega arith

duration_known : is_one_of (ascii "DURATION") property_names ≡ true
unfolding octets_compute
duration_known = refl

short : (c : List ℕ) (ps : List Property) → often_for (list_for c ps) ps ≡ true → is_alarm c ≡ true → tally (ascii "DURATION") ps ≤ 1
unfolding pick
short c ps x a = go (alarm_action (action_of ps)) (sym (of_alarm (action_of ps) ps) ∙ rw a at x)
  where
    go : (o : Option Action) → alarm_often o (tallies ps) ≡ true → tally (ascii "DURATION") ps ≤ 1
    go None q = absurd (false≢true q)
    go (Some n) q =
        once_short (occurrence_in (list_in (list_of n)) (ascii "DURATION")).most (tally (ascii "DURATION") ps)
        (alarm_once n)
        (and_both _ _ (often_at_lem property_names (list_in (list_of n)) ps (ascii "DURATION")
        (sym (all_often_lem (list_of n) ps (list_within n)) ∙ q) duration_known)).1

pub complete-tallies : (c : List ℕ) (ps : List Property) (sub : Around) →
    complete_at (place_of c component_names) (tallies ps) (alarm_action (action_of ps)) sub ≡ complete c ps sub
unfolding complete ◌and◌
complete-tallies c ps sub = rw (← (often_number c ps)) (go (often_for (list_for c ps) ps) refl)
  where
    go : (x : Bool) → often_for (list_for c ps) ps ≡ x → (x and pairs_at (place_of c component_names) (tallies ps) sub) ≡ (x and pairs_of c ps sub)
    go true e = pairs_number c ps sub (short c ps e)
    go false e = refl

-- ---- the halves of the table

-- a run of numbers in two parts
from_parts : (i j k : ℕ) (f : ℕ → Bool) → each_from i (j + k) f ≡ (each_from i j f and each_from (i + j) k f)
unfolding each_from ◌and◌
from_parts i zero k f =
    let a : 0 + k ≡ k = omega arith in
    let z : i ≡ i + 0 = omega arith in
    ap (λ (n : ℕ). each_from i n f) a ∙ ap (λ (n : ℕ). each_from n k f) z
from_parts i (suc j) k f =
    let a : suc j + k ≡ suc (j + k) = omega arith in
    ap (λ (n : ℕ). each_from i n f) a ∙ go (f i) (from_parts (suc i) j k f)
  where
    go : (b : Bool) → each_from (suc i) (j + k) f ≡ (each_from (suc i) j f and each_from (suc i + j) k f) → (b and each_from (suc i) (j + k) f) ≡ ((b and each_from (suc i) j f) and each_from (i + suc j) k f)
    go true ih = ih ∙ (let z : suc i + j ≡ i + suc j = omega arith in ap (λ (n : ℕ). each_from (suc i) j f and each_from n k f) z)
    go false ih = refl

-- the same test of shifted numbers
from_same : (i j k : ℕ) (f g : ℕ → Bool) → ((n : ℕ) → n < k → f (i + n) ≡ g (j + n)) → each_from i k f ≡ each_from j k g
unfolding each_from
from_same i j zero f g h = refl
from_same i j (suc k) f g h = rw (first, from_same (suc i) (suc j) k f g (λ n l. next n l))
  where
    first : f i ≡ g j
    first = let a : i ≡ i + 0 = omega arith in let b : j + 0 ≡ j = omega arith in ap f a ∙ h 0 (omega arith) ∙ ap g b

    next : (n : ℕ) → n < k → f (suc i + n) ≡ g (suc j + n)
    next n l = let a : suc i + n ≡ i + suc n = omega arith in let b : j + suc n ≡ suc j + n = omega arith in ap f a ∙ h (suc n) (omega (arith, l)) ∙ ap g b

pub halves_often : (l : ℕ) (t : List ℕ) → all_often l t ≡ (half_often first_half 0 l t and half_often second_half 23 l t)
unfolding all_often half_often
halves_often l t =
    from_parts 0 23 23 (λ n. often_in (coded (property_at n)) l (get_or t n 0))
    ∙ rw (
      from_same 0 0 23 (λ n. often_in (coded (property_at n)) l (get_or t n 0)) (λ n. often_in (get_or first_half n (coded unrecognised_property)) l (get_or t (0 + n) 0)) one,
      from_same 23 0 23 (λ n. often_in (coded (property_at n)) l (get_or t n 0)) (λ n. often_in (get_or second_half n (coded unrecognised_property)) l (get_or t (23 + n) 0)) two,
    )
  where
    one : (n : ℕ) → n < 23 →
        often_in (coded (property_at (0 + n))) l (get_or t (0 + n) 0) ≡ often_in (get_or first_half (0 + n) (coded unrecognised_property)) l (get_or t (0 + (0 + n)) 0)
    one n h = let z : 0 + n ≡ n = omega arith in rw (z, z, first_at n (coded unrecognised_property) h)

    two : (n : ℕ) → n < 23 →
        often_in (coded (property_at (23 + n))) l (get_or t (23 + n) 0) ≡ often_in (get_or second_half (0 + n) (coded unrecognised_property)) l (get_or t (23 + (0 + n)) 0)
    two n h = let z : 0 + n ≡ n = omega arith in rw (z, second_at n (coded unrecognised_property) h)

module _ (l : ℕ) (t : List ℕ) {a : Bool} {es : List Entry} (i : es ≡ first_half) (e : a ≡ half_often es 0 l t) where
  pub halves_stop : a ≡ false → false ≡ all_often l t
  unfolding ◌and◌
  halves_stop h = sym (halves_often l t ∙ rw (← i, ← e, h))

  pub halves_go : {b : Bool} {fs : List Entry} → a ≡ true → fs ≡ second_half → b ≡ half_often fs 23 l t → b ≡ all_often l t
  unfolding ◌and◌
  halves_go h j f = f ∙ ap (λ (es : List Entry). half_often es 23 l t) j ∙ sym (halves_often l t ∙ rw (← i, ← e, h))

-- ---- the loop over the entries of a half: those from n on are left

pub record Testing (es : List Entry) (from l : ℕ) (t : List ℕ) (n : ℕ) : Type 0 where
  pub sized : length es ≡ 23
  pub inside : n ≤ 23
  pub left : half_often es from l t ≡ each_from n (23 - n) (λ n. often_in (get_or es n (coded unrecognised_property)) l (get_or t (from + n) 0))

pub testing_start : (es : List Entry) (from l : ℕ) (t : List ℕ) → length es ≡ 23 → Testing es from l t 0
unfolding half_often
testing_start es from l t h = record { sized = h; inside = omega arith; left = refl }

module _ {es : List Entry} {from l : ℕ} {t : List ℕ} {n : ℕ} (q : Testing es from l t n) where
  tested : {b : Bool} (d : Entry) → n < 23 → b ≡ often_in (get_or es n d) l (get_or t (from + n) 0) → often_in (get_or es n (coded unrecognised_property)) l (get_or t (from + n) 0) ≡ b
  tested d h f = ap (λ (e : Entry). often_in e l (get_or t (from + n) 0)) (get_d_any es (coded unrecognised_property) d n (omega (arith, q.sized, h))) ∙ sym f

  pub testing_more : {b : Bool} (d : Entry) → n < 23 → b ≡ often_in (get_or es n d) l (get_or t (from + n) 0) → b ≡ true → Testing es from l t (n + 1)
  testing_more d h f g = record {
    sized = q.sized;
    inside = omega arith;
    left = q.left ∙ from_more n 23 (λ n. often_in (get_or es n (coded unrecognised_property)) l (get_or t (from + n) 0)) h (tested d h f ∙ g);
  }

  pub testing_stop : {b : Bool} (d : Entry) → n < 23 → b ≡ often_in (get_or es n d) l (get_or t (from + n) 0) → b ≡ false → false ≡ half_often es from l t
  testing_stop d h f g = sym (q.left ∙ from_stop n 23 (λ n. often_in (get_or es n (coded unrecognised_property)) l (get_or t (from + n) 0)) h (tested d h f ∙ g))

  pub testing_end : 23 ≤ n → true ≡ half_often es from l t
  testing_end h = sym (q.left ∙ from_end n 23 (λ n. often_in (get_or es n (coded unrecognised_property)) l (get_or t (from + n) 0)) h)

pub ruleset testing = (testing_start, testing_end, rules)
