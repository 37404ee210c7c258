-- Laws of what specs/Scan.antt defines.
--     Span is the invariant
--     SpanFrom is the invariant, `search scanning_from`
--     All is the invariant;   all_cons, all_split, all_append, all_parts, all_weaker: its laws
--     FoldingI is the invariant
-- Each has its start, its turn and its end among the rules `scanning`: `search scanning` answers nearly every need of such a loop.
use Rattle.std.specs.Prelude.{◌≡◌, Bool, true, ℕ, zero, suc, ◌+◌, ◌-◌, ◌≤◌, ◌<◌, min, length, get_or, take, drop}
use Rattle.std.proofs.Math.Path.{refl, sym}
use Rattle.std.proofs.Common.{◌∙◌, add-one, length-drop, drop_of_length-le, drop-cons, take_all, rules}
use Rattle.std.proofs.Math.Bool.{false}
use mathlib.Core.List.{List, [], ◌∷◌}
use native.Mathlib.Omega.{arith}
use Rattle.std.proofs.Math.Decide.{dec_le}
use Rattle.std.proofs.Math.Seq.{take-length}
use Rattle.octets.specs.Pick.{pick}
use Rattle.octets.specs.laws.Pick.{pick_first, flag_yes, flag_no}
use Rattle.octets.specs.Append.{◌⊕◌}
use Rattle.octets.specs.Scan.{span_len, span_end, all_of, foldi}

-- one element more
pub drop_next : (s : List ℕ) (i : ℕ) → i < length s → drop i s ≡ get_or s i 0 ∷ drop (i + 1) s
drop_next s i h = rw (add-one, drop-cons s i 0)

-- what `&s[a..]` is, as a callee sees it
pub part_rest : (s : List ℕ) (a : ℕ) → take (length s - a) (drop a s) ≡ drop a s
part_rest s a = take_all (length s - a) (drop a s) (simp length-drop (omega arith))

-- a list cut at its length, or before
pub take_least : (s : List ℕ) (e : ℕ) → take (min e (length s)) s ≡ take e s
take_least s e = go (dec_le e (length s))
  where
    go : Dec (e ≤ length s) → take (min e (length s)) s ≡ take e s
    go (yes h) = let k : min e (length s) ≡ e = omega arith in rw k
    go (no h) = let k : min e (length s) ≡ length s = omega arith in rw k (take-length s ∙ sym (take_all e s (omega arith)))

-- ---- the longest front that passes a test

pub record Span (p : ℕ → Bool) (s : List ℕ) (i : ℕ) : Type 0 where
  pub inside : i ≤ length s
  pub left : span_len p s ≡ i + span_len p (drop i s)

module _ (p : ℕ → Bool) (s : List ℕ) where
  pub span_start : Span p s 0
  span_start = record { inside = omega arith; left = omega arith }

  pub span_more : (i : ℕ) → Span p s i → i < length s → p (get_or s i 0) ≡ true → Span p s (i + 1)
  unfolding span_len pick
  span_more i t h e = record { inside = omega arith; left = t.left ∙ rw (drop_next s i h, e) (omega arith) }

  pub span_stop : (i : ℕ) → Span p s i → i < length s → p (get_or s i 0) ≡ false → i ≡ span_len p s
  unfolding span_len pick
  span_stop i t h e = sym (t.left ∙ rw (drop_next s i h, e) (omega arith))

  pub span_end_lem : (i : ℕ) → Span p s i → length s ≤ i → i ≡ span_len p s
  unfolding span_len
  span_end_lem i t h = sym (t.left ∙ rw (drop_of_length-le s h) (omega arith))

pub span_most : (p : ℕ → Bool) (s : List ℕ) → span_len p s ≤ length s
unfolding span_len
span_most p [] = omega arith
span_most p (x ∷ s) = go (p x) (span_most p s)
  where
    go : (t : Bool) → span_len p s ≤ length s → pick t (suc (span_len p s)) 0 ≤ suc (length s)
    go true h = unfold pick in omega arith
    go false h = unfold pick in omega arith

-- the element that ends the front
pub span_stopped : (p : ℕ → Bool) (s : List ℕ) → span_len p s < length s → p (get_or s (span_len p s) 0) ≡ false
unfolding span_len pick
span_stopped p [] h = absurd (omega arith)
span_stopped p (x ∷ s) h = go (p x) refl h (span_stopped p s)
  where
    go : (t : Bool) → p x ≡ t → pick t (suc (span_len p s)) 0 < suc (length s) → (span_len p s < length s → p (get_or s (span_len p s) 0) ≡ false) → p (get_or (x ∷ s) (pick t (suc (span_len p s)) 0) 0) ≡ false
    go true e h ih = ih (omega arith)
    go false e h ih = e

-- ---- the same from an index i: where the front of `drop i s` that passes the test ends

pub record SpanFrom (p : ℕ → Bool) (s : List ℕ) (i j : ℕ) : Type 0 where
  pub inside : j ≤ length s
  pub left : span_end p s i ≡ span_end p s j

module _ (p : ℕ → Bool) (s : List ℕ) (i : ℕ) where
  pub from_start : i ≤ length s → SpanFrom p s i i
  from_start h = record { inside = h; left = refl }

  pub from_more : (j : ℕ) → SpanFrom p s i j → j < length s → p (get_or s j 0) ≡ true → SpanFrom p s i (j + 1)
  unfolding span_len pick
  from_more j t h e = record { inside = omega arith; left = t.left ∙ rw (drop_next s j h, e) (omega arith) }

  pub from_stop : (j : ℕ) → SpanFrom p s i j → j < length s → p (get_or s j 0) ≡ false → j ≡ span_end p s i
  unfolding span_len pick
  from_stop j t h e = sym (t.left ∙ rw (drop_next s j h, e) (omega arith))

  pub from_end : (j : ℕ) → SpanFrom p s i j → length s ≤ j → j ≡ span_end p s i
  unfolding span_len
  from_end j t h = sym (t.left ∙ rw (drop_of_length-le s h) (omega arith))

pub ruleset scanning_from = (from_start, from_more, from_stop, from_end, flag_yes, flag_no, rules)

-- ---- a test of each element

pub record All (p : ℕ → Bool) (s : List ℕ) (i : ℕ) : Type 0 where
  pub inside : i ≤ length s
  pub left : all_of p s ≡ all_of p (drop i s)

module _ (p : ℕ → Bool) (s : List ℕ) where
  pub all_start : All p s 0
  all_start = record { inside = omega arith; left = refl }

  pub all_more : (i : ℕ) → All p s i → i < length s → p (get_or s i 0) ≡ true → All p s (i + 1)
  unfolding all_of pick
  all_more i t h e = record { inside = omega arith; left = t.left ∙ rw (drop_next s i h, e) }

  pub all_stop : (i : ℕ) → All p s i → i < length s → p (get_or s i 0) ≡ false → false ≡ all_of p s
  unfolding all_of pick
  all_stop i t h e = sym (t.left ∙ rw (drop_next s i h, e))

  pub all_end : (i : ℕ) → All p s i → length s ≤ i → true ≡ all_of p s
  unfolding all_of
  all_end i t h = sym (t.left ∙ rw (drop_of_length-le s h))

module _ (p : ℕ → Bool) where
  pub all_cons : (x : ℕ) (s : List ℕ) → p x ≡ true → all_of p s ≡ true → all_of p (x ∷ s) ≡ true
  unfolding all_of pick
  all_cons x s e h = rw e h

  pub all_split : (x : ℕ) (s : List ℕ) → all_of p (x ∷ s) ≡ true → (p x ≡ true) × (all_of p s ≡ true)
  unfolding all_of
  all_split x s h = pick_first (p x) (all_of p s) h

  pub all_append : (a b : List ℕ) → all_of p a ≡ true → all_of p b ≡ true → all_of p (a ⊕ b) ≡ true
  unfolding ◌⊕◌
  all_append [] b h k = k
  all_append (x ∷ a) b h k = let q = all_split x a h in all_cons x (a ⊕ b) q.0 (all_append a b q.1 k)

  -- what passes a test passes a weaker one
  pub all_weaker : (q : ℕ → Bool) → ((x : ℕ) → p x ≡ true → q x ≡ true) → (s : List ℕ) → all_of p s ≡ true → all_of q s ≡ true
  unfolding all_of pick
  all_weaker q f [] h = refl
  all_weaker q f (x ∷ s) h = let t = all_split x s h in rw (f x t.0) (all_weaker q f s t.1)

  -- both parts of a list pass, so the whole does
  pub all_parts : (n : ℕ) (s : List ℕ) → all_of p (take n s) ≡ true → all_of p (drop n s) ≡ true → all_of p s ≡ true
  all_parts zero s h k = k
  all_parts (suc n) [] h k = h
  all_parts (suc n) (x ∷ s) h k = let q = all_split x (take n s) h in all_cons x s q.0 (all_parts n s q.1 k)

-- ---- a state carried over the elements by a step that is told the index

pub record FoldingI {S : Type 0} (f : S → ℕ → ℕ → S) (st₀ : S) (s : List ℕ) (st : S) (i : ℕ) : Type 0 where
  pub inside : i ≤ length s
  pub left : foldi f st₀ 0 s ≡ foldi f st i (drop i s)

module _ {S : Type 0} (f : S → ℕ → ℕ → S) (s : List ℕ) where
  pub foldi_start : (st : S) → FoldingI f st s st 0
  foldi_start st = record { inside = omega arith; left = refl }

  pub foldi_more : (st₀ st st' : S) (i : ℕ) → FoldingI f st₀ s st i → i < length s → st' ≡ f st i (get_or s i 0) → FoldingI f st₀ s st' (i + 1)
  unfolding foldi
  foldi_more st₀ st st' i t h e = record { inside = omega arith; left = t.left ∙ rw (drop_next s i h, e) }

  pub foldi_end : (st₀ st : S) (i : ℕ) → FoldingI f st₀ s st i → length s ≤ i → st ≡ foldi f st₀ 0 s
  unfolding foldi
  foldi_end st₀ st i t h = sym (t.left ∙ rw (drop_of_length-le s h))

pub ruleset scanning = (span_start, span_more, span_stop, span_end_lem, all_start, all_more, all_stop, all_end, foldi_start, foldi_more, foldi_end, flag_yes, flag_no, rules)
