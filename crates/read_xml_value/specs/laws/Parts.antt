-- Laws of what specs/Parts.antt defines.
--     after_is    it is the one of its name;   after_known: it has one
--     slots                 the rules of the code
use Rattle.std.specs.Prelude.{◌≡◌, refl, Bool, true, false, List, map, ℕ, zero, suc, ◌+◌, ◌-◌, ◌≤◌, ◌<◌, ltb, get_or, Option, None, Some}
use Rattle.std.proofs.Common.{◌∙◌, arith, rules}
use borrow.Author.Tests.{lt-ltb, le-ltb, ltb-true}
use Rattle.octets.specs.Ascii.{ascii}
use Rattle.octets.specs.Pick.{pick, within}
use Rattle.octets.specs.Words.{same}
use Rattle.octets.specs.Computing.{octets_compute}
use Rattle.names.specs.Table.{place_of, names_in}
use Rattle.names.specs.laws.Table.{by_table}
use Rattle.xcal.specs.Layout.{slot_of, after_slot}
use Rattle.xcal.specs.ValueNodes.{period_slots, recur_slots}
use Rattle.read_xml_value.specs.laws.Sequencing.{slot_place}
use Rattle.read_xml_value.specs.Parts.{recur_names, period_names, names_of, slots_of, count_of, slot_number, after_at}

pub recur_names_are : names_in (ascii "freq\nuntil\ncount\ninterval\nbysecond\nbyminute\nbyhour\nbyday\nbymonthday\nbyyearday\nbyweekno\nbymonth\nbysetpos\nwkst\n") ≡ recur_names
unfolding names_in pick
recur_names_are = refl

pub named_rule : (w : List ℕ) {r : ℕ} {rule : Bool} → rule ≡ true →
    r ≡ place_of w (names_in (ascii "freq\nuntil\ncount\ninterval\nbysecond\nbyminute\nbyhour\nbyday\nbymonthday\nbyyearday\nbyweekno\nbymonth\nbysetpos\nwkst\n")) → r ≡ place_of w (names_of rule)
named_rule w h e = rw h (by_table w recur_names_are e)

pub named_period : (w : List ℕ) {r : ℕ} {rule : Bool} → rule ≡ false → r ≡ place_of w period_names → r ≡ place_of w (names_of rule)
named_period w h e = rw h e

-- the three names of PERIOD, one after another
module _ (w : List ℕ) {a : Bool} (e : a ≡ same w (ascii "start")) where
  pub period_start : a ≡ true → 0 ≡ place_of w period_names
  unfolding place_of pick
  period_start h = rw (← e, h)

  module _ (h : a ≡ false) {b : Bool} (f : b ≡ same w (ascii "end")) where
    pub period_end : b ≡ true → 1 ≡ place_of w period_names
    unfolding place_of pick
    period_end k = rw (← e, h, ← f, k)

    module _ (k : b ≡ false) {c : Bool} (g : c ≡ same w (ascii "duration")) where
      pub period_duration : c ≡ true → 2 ≡ place_of w period_names
      unfolding place_of pick
      period_duration l = rw (← e, h, ← f, k, ← g, l)

      pub period_other : c ≡ false → 3 ≡ place_of w period_names
      unfolding place_of pick
      period_other l = rw (← e, h, ← f, k, ← g, l)

pub ruleset periods = (period_start, period_end, period_duration, period_other, rules)

-- ---- the slot of a child

-- the BY parts may stand several times
abbrev slot_at : Bool → ℕ → Option (ℕ × Bool)
slot_at rule i = pick (ltb i (count_of rule)) (Some (slot_number i, within 4 12 i)) None

recur_slot : (i : ℕ) → get_or (map (λ w. slot_of w recur_slots 0) recur_names) i None ≡ slot_at true i
unfolding octets_compute
recur_slot zero = refl
recur_slot (suc zero) = refl
recur_slot (suc (suc zero)) = refl
recur_slot (suc (suc (suc zero))) = refl
recur_slot (suc (suc (suc (suc zero)))) = refl
recur_slot (suc (suc (suc (suc (suc zero))))) = refl
recur_slot (suc (suc (suc (suc (suc (suc zero)))))) = refl
recur_slot (suc (suc (suc (suc (suc (suc (suc zero))))))) = refl
recur_slot (suc (suc (suc (suc (suc (suc (suc (suc zero)))))))) = refl
recur_slot (suc (suc (suc (suc (suc (suc (suc (suc (suc zero))))))))) = refl
recur_slot (suc (suc (suc (suc (suc (suc (suc (suc (suc (suc zero)))))))))) = refl
recur_slot (suc (suc (suc (suc (suc (suc (suc (suc (suc (suc (suc zero))))))))))) = refl
recur_slot (suc (suc (suc (suc (suc (suc (suc (suc (suc (suc (suc (suc zero)))))))))))) = refl
recur_slot (suc (suc (suc (suc (suc (suc (suc (suc (suc (suc (suc (suc (suc zero))))))))))))) = refl
recur_slot (suc (suc (suc (suc (suc (suc (suc (suc (suc (suc (suc (suc (suc (suc i)))))))))))))) =
    rw (le-ltb (suc (suc (suc (suc (suc (suc (suc (suc (suc (suc (suc (suc (suc (suc i)))))))))))))) 14 (omega arith))

period_slot : (i : ℕ) → get_or (map (λ w. slot_of w period_slots 0) period_names) i None ≡ slot_at false i
unfolding octets_compute
period_slot zero = refl
period_slot (suc zero) = refl
period_slot (suc (suc zero)) = refl
period_slot (suc (suc (suc i))) = rw (le-ltb (suc (suc (suc i))) 3 (omega arith))

slot_is : (rule : Bool) (n : List ℕ) → slot_of n (slots_of rule) 0 ≡ slot_at rule (place_of n (names_of rule))
unfolding octets_compute
slot_is true n = slot_place n recur_names recur_slots refl ∙ recur_slot (place_of n recur_names)
slot_is false n = slot_place n period_names period_slots refl ∙ period_slot (place_of n period_names)

pub after_is : (rule : Bool) (n : List ℕ) (next : ℕ) → after_slot (slot_of n (slots_of rule) 0) next ≡ after_at rule (place_of n (names_of rule)) next
unfolding pick
after_is rule n next = rw (slot_is rule n) (go (place_of n (names_of rule)) (ltb (place_of n (names_of rule)) (count_of rule)) (within 4 12 (place_of n (names_of rule))))
  where
    one : (k : ℕ) (a b : Bool) → pick a None (Some (pick b k (suc k))) ≡ (pick a None (pick b (Some k) (Some (k + 1))))
    one k true b = refl
    one k false true = refl
    one k false false = let q : suc k ≡ k + 1 = omega arith in rw q

    go : (i : ℕ) (t b : Bool) → after_slot (pick t (Some (slot_number i, b)) None) next ≡
        (pick t (pick (ltb (slot_number i) next) None (pick b (Some (slot_number i)) (Some (slot_number i + 1)))) None)
    go i true b = one (slot_number i) (ltb (slot_number i) next) b
    go i false b = refl

-- a child that has a place is a known one
pub after_known : (rule : Bool) (i next k : ℕ) → after_at rule i next ≡ Some k → i < count_of rule
unfolding pick
after_known rule i next k e = go (ltb i (count_of rule)) refl e
  where
    go : (t : Bool) → ltb i (count_of rule) ≡ t → pick t (pick (ltb (slot_number i) next) None (pick (within 4 12 i) (Some (slot_number i)) (Some (slot_number i + 1)))) None ≡ Some k → i < count_of rule
    go true h q = ltb-true i (count_of rule) h
    go false h q = let z : ◌≡◌ {A = ℕ} 0 1 = cc in absurd (omega arith)

pub slot_early : (i : ℕ) → i < 2 → (i ≡ slot_number i) × (i ≤ i)
unfolding pick
slot_early i h = rw (lt-ltb i 2 h) (refl, omega arith)

pub slot_late : (i : ℕ) → 2 ≤ i → (i - 1 ≡ slot_number i) × (i - 1 ≤ i)
unfolding pick
slot_late i h = rw (le-ltb i 2 h) (refl, omega arith)

module _ (rule : Bool) {i n : ℕ} (next : ℕ) (e : n ≡ count_of rule) where
  pub after_out : n ≤ i → None ≡ after_at rule i next
  unfolding pick
  after_out h = rw (← e, le-ltb i n h)

  module _ {k : ℕ} (h : i < n) (q : k ≡ slot_number i) where
    pub after_passed : k < next → None ≡ after_at rule i next
    unfolding pick
    after_passed l = rw (← e, lt-ltb i n h, ← q, lt-ltb k next l)

    module _ {b : Bool} (l : next ≤ k) (t : b ≡ within 4 12 i) where
      pub after_several : b ≡ true → Some k ≡ after_at rule i next
      unfolding pick
      after_several f = rw (← e, lt-ltb i n h, ← q, le-ltb k next l, ← t, f)

      pub after_one : b ≡ false → Some (k + 1) ≡ after_at rule i next
      unfolding pick
      after_one f = rw (← e, lt-ltb i n h, ← q, le-ltb k next l, ← t, f)

pub ruleset slots = (slot_early, slot_late, after_out, after_passed, after_several, after_one, named_rule, named_period, rules)
