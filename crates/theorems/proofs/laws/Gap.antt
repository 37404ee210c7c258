-- A property's line among others: the calendar that they state has a gap for it, which depends on the other lines alone.
--     Gap, filled, name_in   a calendar with a gap for one property;   with a property in it;   the name of the component in which the gap is
--     gap_of                 the calendar that lines state around a property's line
use Rattle.std.specs.Prelude.{◌≡◌, true, drop}
use Rattle.std.proofs.Math.Path.{refl, ap}
use Rattle.std.proofs.Common.{◌∙◌, arith}
use Rattle.std.proofs.lemmas.Bool.{false≢true}
use mathlib.Core.List.{List, [], ◌∷◌}
use Prim.Native.Nat.{ℕ, zero, suc, ◌≤◌, ◌<◌}
use Rattle.std.proofs.Math.Seq.{drop-nil}
use Rattle.octets.specs.Append.{◌⊕◌}
use Rattle.calendar.specs.Calendar.{Property, Components, component}
use Rattle.read_text_line.specs.ContentLine.{ContentLine}
use Rattle.text.specs.Statement.{property_of}
use Rattle.text.specs.Tree.{Entry, begin, end, property, nothing, own_of, inner_of}
use Rattle.theorems.specs.OneLine.{without_first, open_behind, innermost}
use Rattle.theorems.proofs.laws.Balanced.{closes}

-- in a component: its name, its properties before and behind, its subcomponents, the components that follow; in its subcomponents; in those that follow it
pub data Gap : Type 0 where
  here : List ℕ → List Property → List Property → Components → Components → Gap
  inside : List ℕ → List Property → Gap → Components → Gap
  later : List ℕ → List Property → Components → Gap → Gap

unfoldable pub filled : Gap → Property → Components
filled (here n ps qs inner next) p = component n (ps ⊕ (p ∷ qs)) inner next
filled (inside n ps g next) p = component n ps (filled g p) next
filled (later n ps inner g) p = component n ps inner (filled g p)

unfoldable pub name_in : Gap → List ℕ
name_in (here n ps qs inner next) = n
name_in (inside n ps g next) = name_in g
name_in (later n ps inner g) = name_in g

-- a property's line between others
abbrev pub between : List Entry → ContentLine → List Entry → List Entry
between fs x gs = fs ⊕ (property x ∷ gs)

-- ---- where it shows: among the own properties of one open component, the j-th from inside, and nowhere else

record OwnAt (fs gs : List Entry) (j : ℕ) : Type 0 where
  own : (k : List ℕ) (x : ContentLine) → own_of k (between fs x gs) j ≡ own_of k fs j ⊕ (property_of k x ∷ own_of k gs 0)
  others : (k : List ℕ) (x : ContentLine) (d : ℕ) → (d ≡ j → ⊥) → own_of k (between fs x gs) d ≡ own_of k (fs ⊕ gs) d
  inner : (x : ContentLine) (d : ℕ) → inner_of (between fs x gs) d ≡ inner_of (fs ⊕ gs) d

-- or in a component that begins in front of it, inside the i-th from inside, and nowhere else
record InnerAt (fs gs : List Entry) (i : ℕ) (g : Gap) : Type 0 where
  inner : (x : ContentLine) → inner_of (between fs x gs) i ≡ filled g (property_of (name_in g) x)
  others : (x : ContentLine) (d : ℕ) → (d ≡ i → ⊥) → inner_of (between fs x gs) d ≡ inner_of (fs ⊕ gs) d
  own : (k : List ℕ) (x : ContentLine) (d : ℕ) → own_of k (between fs x gs) d ≡ own_of k (fs ⊕ gs) d

module _ (gs : List Entry) where
  at_once : OwnAt [] gs 0
  unfolding own_of inner_of ◌⊕◌
  at_once = record { own = λ k x. refl; others = other; inner = λ x d. refl }
    where
      other : (k : List ℕ) (x : ContentLine) (d : ℕ) → (d ≡ 0 → ⊥) → own_of k (property x ∷ gs) d ≡ own_of k gs d
      other k x zero h = absurd (h refl)
      other k x (suc d) h = refl

  -- ---- behind a BEGIN

  -- the component that begins, where neither its properties nor what follows are touched
  begun_same : (m : List ℕ) (fs : List Entry) (x : ContentLine) → own_of m (between fs x gs) 0 ≡ own_of m (fs ⊕ gs) 0 → inner_of (between fs x gs) 0 ≡ inner_of (fs ⊕ gs) 0 →
      inner_of (between fs x gs) 1 ≡ inner_of (fs ⊕ gs) 1 → inner_of (between (begin m ∷ fs) x gs) 0 ≡ inner_of ((begin m ∷ fs) ⊕ gs) 0
  unfolding inner_of ◌⊕◌
  begun_same m fs x a b c = rw (a, b, c)

  -- what stands further out
  outer_same : (m : List ℕ) (fs : List Entry) → ((x : ContentLine) (d : ℕ) → inner_of (between fs x gs) (suc (suc d)) ≡ inner_of (fs ⊕ gs) (suc (suc d))) →
      (x : ContentLine) (d : ℕ) → (d ≡ 0 → ⊥) → inner_of (between (begin m ∷ fs) x gs) d ≡ inner_of ((begin m ∷ fs) ⊕ gs) d
  unfolding inner_of ◌⊕◌
  outer_same m fs f x zero h = absurd (h refl)
  outer_same m fs f x (suc d) h = f x d

  begin_own : (m : List ℕ) (fs : List Entry) (j : ℕ) → OwnAt fs gs (suc j) → OwnAt (begin m ∷ fs) gs j
  unfolding own_of inner_of ◌⊕◌
  begin_own m fs j a = record { own = λ k x. a.own k x; others = λ k x d h. a.others k x (suc d) (λ e. h (omega arith)); inner = inner_too }
    where
      inner_too : (x : ContentLine) (d : ℕ) → inner_of (between (begin m ∷ fs) x gs) d ≡ inner_of ((begin m ∷ fs) ⊕ gs) d
      inner_too x zero = begun_same m fs x (a.others m x 0 (λ e. omega arith)) (a.inner x 0) (a.inner x 1)
      inner_too x (suc d) = a.inner x (suc (suc d))

  begin-here : (m : List ℕ) (fs : List Entry) → OwnAt fs gs 0 → InnerAt (begin m ∷ fs) gs 0 (here m (own_of m fs 0) (own_of m gs 0) (inner_of (fs ⊕ gs) 0) (inner_of (fs ⊕ gs) 1))
  unfolding own_of inner_of filled name_in ◌⊕◌
  begin-here m fs a = record { inner = λ x. rw (a.own m x, a.inner x 0, a.inner x 1); others = outer_same m fs (λ x d. a.inner x (suc (suc d))); own = λ k x d. a.others k x (suc d) (λ e. omega arith) }

  begin-inside : (m : List ℕ) (fs : List Entry) (g : Gap) → InnerAt fs gs 0 g → InnerAt (begin m ∷ fs) gs 0 (inside m (own_of m (fs ⊕ gs) 0) g (inner_of (fs ⊕ gs) 1))
  unfolding own_of inner_of filled name_in ◌⊕◌
  begin-inside m fs g a = record { inner = λ x. rw (a.own m x 0, a.inner x, a.others x 1 (λ e. omega arith)); others = outer_same m fs (λ x d. a.others x (suc (suc d)) (λ e. omega arith)); own = λ k x d. a.own k x (suc d) }

  begin-later : (m : List ℕ) (fs : List Entry) (g : Gap) → InnerAt fs gs 1 g → InnerAt (begin m ∷ fs) gs 0 (later m (own_of m (fs ⊕ gs) 0) (inner_of (fs ⊕ gs) 0) g)
  unfolding own_of inner_of filled name_in ◌⊕◌
  begin-later m fs g a = record { inner = λ x. rw (a.own m x 0, a.others x 0 (λ e. omega arith), a.inner x); others = outer_same m fs (λ x d. a.others x (suc (suc d)) (λ e. omega arith)); own = λ k x d. a.own k x (suc d) }

  begin_outer : (m : List ℕ) (fs : List Entry) (i : ℕ) (g : Gap) → InnerAt fs gs (suc (suc i)) g → InnerAt (begin m ∷ fs) gs (suc i) g
  unfolding own_of inner_of ◌⊕◌
  begin_outer m fs i g a = record { inner = λ x. a.inner x; others = other; own = λ k x d. a.own k x (suc d) }
    where
      other : (x : ContentLine) (d : ℕ) → (d ≡ suc i → ⊥) → inner_of (between (begin m ∷ fs) x gs) d ≡ inner_of ((begin m ∷ fs) ⊕ gs) d
      other x zero h = begun_same m fs x (a.own m x 0) (a.others x 0 (λ e. omega arith)) (a.others x 1 (λ e. omega arith))
      other x (suc d) h = a.others x (suc (suc d)) (λ e. h (omega arith))

  -- ---- behind an END

  end_own : (fs : List Entry) (j : ℕ) → OwnAt fs gs j → OwnAt (end ∷ fs) gs (suc j)
  unfolding own_of inner_of ◌⊕◌
  end_own fs j a = record { own = λ k x. a.own k x; others = other; inner = inner_too }
    where
      other : (k : List ℕ) (x : ContentLine) (d : ℕ) → (d ≡ suc j → ⊥) → own_of k (between (end ∷ fs) x gs) d ≡ own_of k ((end ∷ fs) ⊕ gs) d
      other k x zero h = refl
      other k x (suc d) h = a.others k x d (λ e. h (omega arith))

      inner_too : (x : ContentLine) (d : ℕ) → inner_of (between (end ∷ fs) x gs) d ≡ inner_of ((end ∷ fs) ⊕ gs) d
      inner_too x zero = refl
      inner_too x (suc d) = a.inner x d

  end_inner : (fs : List Entry) (i : ℕ) (g : Gap) → InnerAt fs gs i g → InnerAt (end ∷ fs) gs (suc i) g
  unfolding own_of inner_of ◌⊕◌
  end_inner fs i g a = record { inner = λ x. a.inner x; others = other; own = own_too }
    where
      other : (x : ContentLine) (d : ℕ) → (d ≡ suc i → ⊥) → inner_of (between (end ∷ fs) x gs) d ≡ inner_of ((end ∷ fs) ⊕ gs) d
      other x zero h = refl
      other x (suc d) h = a.others x d (λ e. h (omega arith))

      own_too : (k : List ℕ) (x : ContentLine) (d : ℕ) → own_of k (between (end ∷ fs) x gs) d ≡ own_of k ((end ∷ fs) ⊕ gs) d
      own_too k x zero = refl
      own_too k x (suc d) = a.own k x d

  -- ---- behind a property

  property_same : (l : ContentLine) (fs : List Entry) (k : List ℕ) (x : ContentLine) (d : ℕ) → own_of k (between fs x gs) d ≡ own_of k (fs ⊕ gs) d →
      own_of k (between (property l ∷ fs) x gs) d ≡ own_of k ((property l ∷ fs) ⊕ gs) d
  unfolding own_of ◌⊕◌
  property_same l fs k x zero e = ap (λ (ps : List Property). property_of k l ∷ ps) e
  property_same l fs k x (suc d) e = e

  property_own : (l : ContentLine) (fs : List Entry) (j : ℕ) → OwnAt fs gs j → OwnAt (property l ∷ fs) gs j
  unfolding own_of inner_of ◌⊕◌
  property_own l fs j a = record { own = λ k x. own_too j k x (a.own k x); others = λ k x d h. property_same l fs k x d (a.others k x d h); inner = λ x d. a.inner x d }
    where
      own_too : (j : ℕ) (k : List ℕ) (x : ContentLine) → own_of k (between fs x gs) j ≡ own_of k fs j ⊕ (property_of k x ∷ own_of k gs 0) →
          own_of k (between (property l ∷ fs) x gs) j ≡ own_of k (property l ∷ fs) j ⊕ (property_of k x ∷ own_of k gs 0)
      own_too zero k x e = ap (λ (ps : List Property). property_of k l ∷ ps) e
      own_too (suc j) k x e = e

  property_inner : (l : ContentLine) (fs : List Entry) (i : ℕ) (g : Gap) → InnerAt fs gs i g → InnerAt (property l ∷ fs) gs i g
  unfolding inner_of ◌⊕◌
  property_inner l fs i g a = record { inner = λ x. a.inner x; others = λ x d h. a.others x d h; own = λ k x d. property_same l fs k x d (a.own k x d) }

-- ---- all lines in front of it

-- of n open components, of the names ns
data Place (fs gs : List Entry) (n : ℕ) (ns : List (List ℕ)) : Type 0 where
  own_at : (j : ℕ) → j < n → open_behind fs ns ≡ drop j ns → OwnAt fs gs j → Place fs gs n ns
  inner_at : (i : ℕ) → i ≤ n → (g : Gap) → innermost (open_behind fs ns) ≡ name_in g → InnerAt fs gs i g → Place fs gs n ns

place_begin : (m : List ℕ) (fs gs : List Entry) (n : ℕ) (ns : List (List ℕ)) → Place fs gs (suc n) (m ∷ ns) → Place (begin m ∷ fs) gs n ns
unfolding open_behind name_in
place_begin m fs gs n ns (own_at zero l e a) =
    inner_at 0 (omega arith) (here m (own_of m fs 0) (own_of m gs 0) (inner_of (fs ⊕ gs) 0) (inner_of (fs ⊕ gs) 1)) (ap innermost e) (begin-here gs m fs a)
place_begin m fs gs n ns (own_at (suc j) l e a) = own_at j (omega arith) e (begin_own gs m fs j a)
place_begin m fs gs n ns (inner_at zero l g e a) = inner_at 0 (omega arith) (inside m (own_of m (fs ⊕ gs) 0) g (inner_of (fs ⊕ gs) 1)) e (begin-inside gs m fs g a)
place_begin m fs gs n ns (inner_at (suc zero) l g e a) = inner_at 0 (omega arith) (later m (own_of m (fs ⊕ gs) 0) (inner_of (fs ⊕ gs) 0) g) e (begin-later gs m fs g a)
place_begin m fs gs n ns (inner_at (suc (suc i)) l g e a) = inner_at (suc i) (omega arith) g e (begin_outer gs m fs i g a)

drop_one : (j : ℕ) (ns : List (List ℕ)) → drop j (without_first ns) ≡ drop (suc j) ns
drop_one j [] = drop-nil j
drop_one j (n ∷ ns) = refl

place_end : (fs gs : List Entry) (n : ℕ) (ns : List (List ℕ)) → Place fs gs n (without_first ns) → Place (end ∷ fs) gs (suc n) ns
unfolding open_behind
place_end fs gs n ns (own_at j l e a) = own_at (suc j) (omega arith) (e ∙ drop_one j ns) (end_own gs fs j a)
place_end fs gs n ns (inner_at i l g e a) = inner_at (suc i) (omega arith) g e (end_inner gs fs i g a)

place_property : (m : ContentLine) (fs gs : List Entry) (n : ℕ) (ns : List (List ℕ)) → Place fs gs n ns → Place (property m ∷ fs) gs n ns
unfolding open_behind
place_property m fs gs n ns (own_at j l e a) = own_at j l e (property_own gs m fs j a)
place_property m fs gs n ns (inner_at i l g e a) = inner_at i l g e (property_inner gs m fs i g a)

place : (fs gs : List Entry) (x : ContentLine) (n : ℕ) (ns : List (List ℕ)) → closes (between fs x gs) n ≡ true → Place fs gs n ns
unfolding closes open_behind ◌⊕◌
place [] gs x zero ns h = absurd (false≢true h)
place [] gs x (suc n) ns h = own_at 0 (omega arith) refl (at_once gs)
place (begin m ∷ fs) gs x n ns h = place_begin m fs gs n ns (place fs gs x (suc n) (m ∷ ns) h)
place (end ∷ fs) gs x zero ns h = absurd (false≢true h)
place (end ∷ fs) gs x (suc n) ns h = place_end fs gs n ns (place fs gs x n (without_first ns) h)
place (property m ∷ fs) gs x zero ns h = absurd (false≢true h)
place (property m ∷ fs) gs x (suc n) ns h = place_property m fs gs (suc n) ns (place fs gs x (suc n) ns h)
place (nothing ∷ fs) gs x n ns h = absurd (false≢true h)

-- ---- with nothing open in front of all lines

pub record Around (fs gs : List Entry) : Type 0 where
  pub gap : Gap
  pub name : innermost (open_behind fs []) ≡ name_in gap
  pub states : (x : ContentLine) → inner_of (between fs x gs) 0 ≡ filled gap (property_of (name_in gap) x)

placed_around : (fs gs : List Entry) → Place fs gs 0 [] → Around fs gs
placed_around fs gs (own_at j l e a) = absurd (omega arith)
placed_around fs gs (inner_at zero l g e a) = record { gap = g; name = e; states = λ x. a.inner x }
placed_around fs gs (inner_at (suc i) l g e a) = absurd (omega arith)

pub gap_of : (fs gs : List Entry) (x : ContentLine) → closes (between fs x gs) 0 ≡ true → Around fs gs
gap_of fs gs x h = placed_around fs gs (place fs gs x 0 [] h)
