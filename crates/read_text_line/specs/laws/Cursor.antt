-- Laws of what specs/Cursor.antt defines.
--     run_is, run_cut    what stands there
use Rattle.std.specs.Prelude.{◌≡◌, Bool, ℕ, ◌-◌, ◌*◌, ◌<◌, eqb, length, take, Option, None, Some, Result, Ok, Err, IsErrAnd}
use Rattle.std.proofs.Math.Path.{refl, sym}
use Rattle.std.proofs.Common.{◌∙◌, ap, arith, rules}
use Rattle.std.proofs.Math.Bool.{true, false}
use Rattle.std.proofs.lemmas.Result.{err_from_is_err_and}
use mathlib.Core.List.{List, [], ◌∷◌}
use borrow.Author.Tests.{eq-eqb, ne_eqb, eqb-false}
use Rattle.octets.specs.Pick.{pick}
use Rattle.octets.specs.laws.Pick.{pick_second, flag_yes, flag_no}
use Rattle.octets.specs.Append.{◌⊕◌}
use Rattle.octets.specs.Scan.{span_len}
use Rattle.octets.specs.Runs.{after_byte, after_run, run_of}
use Rattle.octets.specs.laws.Runs.{run_joined}
use Rattle.octets.specs.Many.{One}
use Rattle.source.specs.Source.{rest, spell, cuts, Reads}
use Rattle.source.specs.laws.Facts.{rest_byte, cut_is, reach_here, reach_on}
use Rattle.source.specs.declared.points.Unit.{Unit}
use Rattle.read_text_line.specs.Cursor.{Onward, OnwardTo, in_line, RunEnds, OnItem, OnRead, ItemAt}
use Rattle.read_text_line.specs.declared.Malformed.{Malformed}

-- ---- cursors

module _ {m : ℕ} {s : List ℕ} where
  pub onward_here : (c : ℕ) → Onward m s c c
  onward_here c = record { onward = omega arith; inside = omega arith; plain = λ z h. h; reach = reach_here m s c }

  pub onward_both : {a b c : ℕ} → Onward m s a b → Onward m s b c → Onward m s a c
  onward_both p q = record { onward = omega arith; inside = omega arith; plain = λ z h. q.plain z (p.plain z h); reach = reach_on p.onward q.onward p.reach q.reach }

  pub onward_byte : {c : ℕ} {n : Unit} → Reads m s c n → (n.u ≡ 256 → ⊥) → Onward m s c n.next
  onward_byte {c} {n} p h =
      let k : n.u < 256 = omega (arith, p.small, h) in
      record { onward = omega arith; inside = omega arith; plain = λ z l. p.plain z h; reach = p.reach }

-- ---- a byte at a cursor

module _ {A : Type 0} {m : ℕ} {s : List ℕ} {c : ℕ} {n : Unit} (p : Reads m s c n) (b : ℕ) (f : List ℕ → A) (d : A) where
  pub byte_at : n.u ≡ b → (b ≡ 256 → ⊥) → after_byte b (rest m s c) f d ≡ f (rest m s n.next)
  unfolding after_byte pick
  byte_at e h = rw (rest_byte p (λ k. h (sym e ∙ k)), eq-eqb n.u b e)

  pub byte_not : (n.u ≡ b → ⊥) → after_byte b (rest m s c) f d ≡ d
  unfolding after_byte spell pick
  byte_not h = rw p.is (go (eqb n.u 256))
    where
      go : (t : Bool) → after_byte b (pick t [] (n.u ∷ rest m s n.next)) f d ≡ d
      go true = refl
      go false = rw (ne_eqb n.u b h)

-- ---- runs of characters

-- what stands from c on is the run, and what stands from r on
pub run_is : {p : ℕ → Bool} {m : ℕ} {s : List ℕ} {c r : ℕ} → RunEnds p m s c r → rest m s c ≡ run_of p (rest m s c) ⊕ rest m s r
run_is {p} {m} {s} {c} {r} t = rw t.left (sym (run_joined p (rest m s c)))

-- what is lent, cut at the run's end, is the run
pub run_cut : {p : ℕ → Bool} {m : ℕ} {s : List ℕ} {c r : ℕ} → cuts m ≡ true → RunEnds p m s c r → rest m (take r s) c ≡ run_of p (rest m s c)
run_cut {p} {m} {s} {c} {r} y t = cut_is m s (run_of p (rest m s c)) c r y t.to.onward t.to.reach (run_is t)

-- what is left behind the run is the same from c₀ as from c
pub record Passing (p : ℕ → Bool) (m : ℕ) (s : List ℕ) (c₀ c : ℕ) : Type 0 where
  pub left : after_run p (rest m s c₀) ≡ after_run p (rest m s c)
  pub to : Onward m s c₀ c

pub passing_start : (p : ℕ → Bool) (m : ℕ) (s : List ℕ) (c : ℕ) → Passing p m s c c
passing_start p m s c = record { left = refl; to = onward_here c }

module _ {p : ℕ → Bool} {m : ℕ} {s : List ℕ} {c₀ c : ℕ} {n : Unit} (t : Passing p m s c₀ c) (q : Reads m s c n) where
  some_byte : in_line p n.u ≡ true → n.u ≡ 256 → ⊥
  some_byte h = eqb-false n.u 256 (pick_second (eqb n.u 256) (p n.u) h).0

  pub passing_more : in_line p n.u ≡ true → Passing p m s c₀ n.next
  unfolding after_run span_len pick
  passing_more h = record {
    left = t.left ∙ rw (rest_byte q (some_byte h), (pick_second (eqb n.u 256) (p n.u) h).1);
    to = onward_both t.to (onward_byte q (some_byte h));
  }

  pub passing_less : in_line p n.u ≡ true → 4 * length s - n.next < 4 * length s - c
  passing_less h = let u : n.u < 256 = omega (arith, q.small, some_byte h) in omega arith

  pub passing_stop : in_line p n.u ≡ false → RunEnds p m s c₀ c
  unfolding after_run span_len spell pick
  passing_stop h = record { left = sym (t.left ∙ rw q.is (go (eqb n.u 256) h)); to = t.to }
    where
      go : (b : Bool) → pick b false (p n.u) ≡ false → after_run p (pick b [] (n.u ∷ rest m s n.next)) ≡ pick b [] (n.u ∷ rest m s n.next)
      go true k = refl
      go false k = rw k

-- the encoding's number was tested
pub run_as : {p : ℕ → Bool} {m k : ℕ} {s : List ℕ} {c r : ℕ} → m ≡ k → RunEnds p k s c r → RunEnds p m s c r
run_as e q = rw e q

pub ruleset passing = (passing_start, passing_more, passing_less, passing_stop, run_as, flag_yes, flag_no, rules)

-- what is read from a later cursor on
pub onward_then : {m : ℕ} {s : List ℕ} {a b : ℕ} (r : Result ℕ (Malformed ℕ)) → Onward m s a b → OnwardTo m s b r → OnwardTo m s a r
onward_then (Ok c) p q = onward_both p q
onward_then (Err e) p q = onward_both p q

-- the fault that `?` hands on
pub passed_on : {A C : Type 0} (r : Result A (Malformed C)) (x : Malformed C) → IsErrAnd r (λ y. y ≡ x) → r ≡ Err x
passed_on r x h = let p = err_from_is_err_and r h in p.1 ∙ ap Err p.2

-- ---- an item at a cursor

pub on_item : {C : Type 0} (P Q : C → Type 0) (r : Result (Option C) (Malformed C)) → ((v : C) → P v → Q v) → OnItem r P → OnItem r Q
on_item P Q (Ok (Some v)) f h = f v h
on_item P Q (Ok None) f h = tt
on_item P Q (Err e) f h = tt

pub on_read : {C : Type 0} (P Q : C → Type 0) (r : Result (Option C) (Malformed C)) → ((v : C) → P v → Q v) → OnRead r P → OnRead r Q
on_read P Q (Ok (Some v)) f h = f v h
on_read P Q (Ok None) f h = tt
on_read P Q (Err e) f h = f e.read h

module _ {C A : Type 0} {p : List ℕ → One A} {m : ℕ} {s : List ℕ} {c : ℕ} {n : Unit} {item : C → A} {behind : C → ℕ} (b : ℕ) (q : List ℕ → One A) (d : One A) (e : (xs : List ℕ) → p xs ≡ after_byte b xs q d) (t : Reads m s c n) where
  -- an item behind a byte
  pub item_behind : {r : Result (Option C) (Malformed C)} → (b ≡ 256 → ⊥) → n.u ≡ b → ItemAt q m s n.next item behind r → ItemAt p m s c item behind r
  item_behind {r} h k i = record {
    fault = i.fault;
    is = e (rest m s c) ∙ byte_at t b q d k h ∙ i.is;
    to = on_read (λ (v : C). Onward m s n.next (behind v)) (λ (v : C). Onward m s c (behind v)) r (λ v o. onward_both (onward_byte t (λ z. h (sym k ∙ z))) o) i.to;
  }

  pub item_not : d ≡ One.none → (n.u ≡ b → ⊥) → ItemAt p m s c item behind (Ok None)
  item_not z k = record { fault = []; is = e (rest m s c) ∙ byte_not t b q d k ∙ z; to = tt }
