-- Laws of what specs/Matching.antt defines.
--     Seeking            the invariant of the walk, with its rules `seeking`
use Rattle.std.specs.Prelude.{◌≡◌, refl, Bool, ℕ, suc, ◌+◌, ◌-◌, ◌≤◌, ◌<◌, eqb, length, get_or, drop, Option, None, Some}
use Rattle.std.proofs.Math.Path.{sym}
use Rattle.std.proofs.Common.{ap, ◌∙◌, arith, drop_of_length-le, rules}
use Rattle.std.proofs.Math.Bool.{true, false}
use mathlib.Core.List.{List, [], ◌∷◌}
use borrow.Author.Tests.{eq-eqb, ne_eqb}
use Rattle.octets.specs.Pick.{pick, ◌and◌}
use Rattle.octets.specs.laws.Scan.{drop_next}
use Rattle.source.specs.Source.{rest, spell, Reads}
use Rattle.source.specs.declared.points.Unit.{Unit}
use Rattle.names.specs.Case.{cased, cased_byte}
use Rattle.names.specs.laws.Case.{same_step, same_empty}
use Rattle.names.specs.Table.{place_of, names_in, in_first}
use Rattle.names.specs.Matching.{word_from, is_over, sought, Turned, Passes}
use Rattle.names.specs.declared.Case.{Case}

sought_missed : (w : List ℕ) (l : List (List ℕ)) (t : ℕ) → sought w None (in_first t l) ≡ sought w None l
unfolding sought pick
sought_missed w [] t = refl
sought_missed w (n ∷ ns) t = refl

sought_unit : (w : List ℕ) (k : Case) (u : ℕ) (r : List ℕ) (l : List (List ℕ)) (t : ℕ) (b : Bool) → t < 256 → eqb (cased_byte k u) t ≡ b →
    sought w (Some (cased k (spell u r))) (in_first t l) ≡ sought w (pick b (Some (cased k r)) None) l
unfolding sought ◌and◌ pick
sought_unit w k u r [] t true h e = refl
sought_unit w k u r [] t false h e = refl
sought_unit w k u r (n ∷ ns) t true h e = rw (same_step k u r t n h, e)
sought_unit w k u r (n ∷ ns) t false h e = rw (same_step k u r t n h, e)

sought_all : (w : List ℕ) (l : List (List ℕ)) → sought w (Some w) l ≡ place_of w l
unfolding sought place_of
sought_all w [] = refl
sought_all w (n ∷ ns) = refl

-- where the name at hand ends here
sought_nil : (k : Case) (mode : ℕ) (s : List ℕ) (c : Option ℕ) (w : List ℕ) (l : List (List ℕ)) →
    sought w (word_from k mode s c) ([] ∷ l) ≡ pick (is_over mode s c) 0 (suc (place_of w l))
unfolding sought pick
sought_nil k mode s None w l = refl
sought_nil k mode s (Some c) w l = rw (same_empty k (rest mode s c))

-- ---- a turn over a byte of a name

module _ {k : Case} {mode : ℕ} {s : List ℕ} {t : ℕ} where
  pub turn_missed : {c : Option ℕ} → c ≡ None → Turned k mode s c t None
  turn_missed e = record { is = λ w l. rw e (sought_missed w l t) }

  module _ {c : Option ℕ} {at : ℕ} {n : Unit} {v t' : ℕ} (e : c ≡ Some at) (p : Reads mode s at n) (q : v ≡ cased_byte k n.u) (f : (t' ≡ t) × (t' < 256)) where
    pub turn_other : (v ≡ t' → ⊥) → Turned k mode s c t None
    unfolding pick
    turn_other h = record { is = λ w l. rw (e, p.is) (sought_unit w k n.u (rest mode s n.next) l t false (omega arith) (ne_eqb (cased_byte k n.u) t (λ g. h (q ∙ g ∙ sym f.0)))) }

    pub turn_same : v ≡ t' → Turned k mode s c t (Some n.next)
    unfolding pick
    turn_same h = record { is = λ w l. rw (e, p.is) (sought_unit w k n.u (rest mode s n.next) l t true (omega arith) (eq-eqb (cased_byte k n.u) t (sym q ∙ h ∙ f.0))) }

pub ruleset turning = (turn_missed, turn_other, turn_same, rules)

-- ---- the rest of a name that is no match

pub pass_start : (table : List ℕ) (i : ℕ) → i ≤ length table → Passes table i i
pass_start table i h = record { onward = omega arith; inside = h; is = λ w. refl }

pub pass_more : {table : List ℕ} {i r : ℕ} → Passes table i r → r < length table → (get_or table r 0 ≡ 10 → ⊥) → Passes table i (r + 1)
unfolding names_in pick
pass_more {table} {i} {r} p h e = record {
  onward = omega (arith, p.onward);
  inside = omega arith;
  is = λ w. p.is w ∙ rw (drop_next table r h, ne_eqb (get_or table r 0) 10 e) (sought_missed w (names_in (drop (r + 1) table)) (get_or table r 0));
}

pub ruleset passing = (pass_start, pass_more, rules)

-- ---- the walk: `name` names are passed, c is the cursor in the word, none where the name at hand is no match, i bytes of the table are passed

pub record Seeking (k : Case) (mode : ℕ) (s : List ℕ) (at : ℕ) (table : List ℕ) (name : ℕ) (c : Option ℕ) (i : ℕ) : Type 0 where
  pub inside : i ≤ length table
  pub small : name ≤ i
  pub left : place_of (cased k (rest mode s at)) (names_in table) ≡ name + sought (cased k (rest mode s at)) (word_from k mode s c) (names_in (drop i table))

module _ (k : Case) (mode : ℕ) (s : List ℕ) (at : ℕ) (table : List ℕ) where
  pub seek_start : Seeking k mode s at table 0 (Some at) 0
  seek_start = record { inside = omega arith; small = omega arith; left = rw sought_all (omega arith) }

module _ {k : Case} {mode : ℕ} {s : List ℕ} {at : ℕ} {table : List ℕ} {name : ℕ} {c : Option ℕ} {i : ℕ} (p : Seeking k mode s at table name c i) where
  pub seek_end : length table ≤ i → name ≡ place_of (cased k (rest mode s at)) (names_in table)
  unfolding names_in sought
  seek_end h = sym (p.left ∙ rw (drop_of_length-le table h) (omega arith))

  pub seek_found : i < length table → get_or table i 0 ≡ 10 → is_over mode s c ≡ true → name ≡ place_of (cased k (rest mode s at)) (names_in table)
  unfolding names_in pick
  seek_found h e f = sym (p.left ∙ rw (drop_next table i h, e, sought_nil k mode s c, f) (omega arith))

  pub seek_next : i < length table → get_or table i 0 ≡ 10 → is_over mode s c ≡ false → Seeking k mode s at table (name + 1) (Some at) (i + 1)
  unfolding names_in pick
  seek_next h e f = record {
    inside = omega arith;
    small = omega arith;
    left = p.left ∙ rw (drop_next table i h, e, sought_nil k mode s c, f, sought_all) (omega arith);
  }

  -- the byte fits, or the rest of its name is passed over
  pub seek_on : {d : Option ℕ} → i < length table → (get_or table i 0 ≡ 10 → ⊥) → Turned k mode s c (get_or table i 0) d → Seeking k mode s at table name d (i + 1)
  unfolding names_in pick
  seek_on {d} h e f = record {
    inside = omega arith;
    small = omega arith;
    left = p.left ∙ rw (drop_next table i h, ne_eqb (get_or table i 0) 10 e, f.is (cased k (rest mode s at)) (names_in (drop (i + 1) table)));
  }

  pub seek_over : {d : Option ℕ} {r : ℕ} → i < length table → (get_or table i 0 ≡ 10 → ⊥) → Turned k mode s c (get_or table i 0) d → d ≡ None → Passes table (i + 1) r → Seeking k mode s at table name d r
  seek_over {d} {r} h e f y q =
      let b = seek_on h e f in record {
        inside = q.inside;
        small = omega (arith, p.small, q.onward);
        left = b.left ∙ rw y (ap (λ (n : ℕ). name + n) (q.is (cased k (rest mode s at))));
      }

  pub seek_less : {r : ℕ} → i < length table → Passes table (i + 1) r → length table - r < length table - i
  seek_less h q = omega (arith, q.onward)

pub ruleset seeking = (seek_start, seek_end, seek_found, seek_next, seek_on, seek_over, seek_less, rules)
