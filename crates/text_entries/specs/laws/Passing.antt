-- Laws of what specs/Passing.antt defines.
--     behind_none, behind-begin ..    by the entry at hand;   inner_past, inner_closed, inner_beside: of components
--     behind_deeper, own_deeper, inner_deeper    what stands a component deeper goes on behind its END
--     own_same                        properties are the same where each line states the same
use Rattle.std.specs.Prelude.{◌≡◌, true}
use Rattle.std.proofs.Math.Path.{refl}
use Rattle.std.proofs.lemmas.Bool.{false≢true}
use mathlib.Core.List.{List, [], ◌∷◌}
use Prim.Native.Nat.{ℕ, zero, suc, ◌+◌, ◌-◌}
use Rattle.std.proofs.Math.Numerals.{add-one, sub-one}
use Rattle.std.proofs.Common.{arith}
use Rattle.calendar.specs.Calendar.{no_more}
use Rattle.read_text_line.specs.ContentLine.{ContentLine}
use Rattle.text.specs.Statement.{property_of}
use Rattle.text.specs.Tree.{Entry, begin, end, property, nothing, own_of, inner_of}
use Rattle.text_entries.specs.Passing.{behind, is_aside}

-- ---- behind a component

pub behind_none : (d : ℕ) → behind [] d ≡ []
unfolding behind
behind_none d = refl

module _ (es : List Entry) where
  pub behind-begin : (n : List ℕ) (d : ℕ) → behind (begin n ∷ es) d ≡ behind es (d + 1)
  unfolding behind
  behind-begin n d = rw add-one

  pub behind_close : (d : ℕ) → d ≡ 0 → behind (end ∷ es) d ≡ es
  unfolding behind
  behind_close zero e = refl
  behind_close (suc d) e = absurd (omega arith)

  pub behind_up : (d : ℕ) → (d ≡ 0 → ⊥) → behind (end ∷ es) d ≡ behind es (d - 1)
  unfolding behind
  behind_up zero e = absurd (e refl)
  behind_up (suc d) e = rw sub-one

  pub behind_aside : (x : Entry) (d : ℕ) → is_aside x ≡ true → behind (x ∷ es) d ≡ behind es d
  unfolding behind
  behind_aside (begin n) d h = absurd (false≢true h)
  behind_aside end d h = absurd (false≢true h)
  behind_aside (property l) zero h = refl
  behind_aside (property l) (suc d) h = refl
  behind_aside nothing zero h = refl
  behind_aside nothing (suc d) h = refl

-- what stands a component deeper goes on behind its END
pub behind_deeper : (es : List Entry) (d : ℕ) → behind es (suc d) ≡ behind (behind es d) 0
unfolding behind
behind_deeper [] d = refl
behind_deeper (begin n ∷ es) d = behind_deeper es (suc d)
behind_deeper (end ∷ es) zero = refl
behind_deeper (end ∷ es) (suc d) = behind_deeper es d
behind_deeper (property l ∷ es) zero = behind_deeper es zero
behind_deeper (property l ∷ es) (suc d) = behind_deeper es (suc d)
behind_deeper (nothing ∷ es) zero = behind_deeper es zero
behind_deeper (nothing ∷ es) (suc d) = behind_deeper es (suc d)

pub own_deeper : (k : List ℕ) (es : List Entry) (d : ℕ) → own_of k es (suc d) ≡ own_of k (behind es d) 0
unfolding own_of behind
own_deeper k [] d = refl
own_deeper k (begin n ∷ es) d = own_deeper k es (suc d)
own_deeper k (end ∷ es) zero = refl
own_deeper k (end ∷ es) (suc d) = own_deeper k es d
own_deeper k (property l ∷ es) zero = own_deeper k es zero
own_deeper k (property l ∷ es) (suc d) = own_deeper k es (suc d)
own_deeper k (nothing ∷ es) zero = own_deeper k es zero
own_deeper k (nothing ∷ es) (suc d) = own_deeper k es (suc d)

pub inner_deeper : (es : List Entry) (d : ℕ) → inner_of es (suc d) ≡ inner_of (behind es d) 0
unfolding inner_of behind
inner_deeper [] d = refl
inner_deeper (begin n ∷ es) d = inner_deeper es (suc d)
inner_deeper (end ∷ es) zero = refl
inner_deeper (end ∷ es) (suc d) = inner_deeper es d
inner_deeper (property l ∷ es) zero = inner_deeper es zero
inner_deeper (property l ∷ es) (suc d) = inner_deeper es (suc d)
inner_deeper (nothing ∷ es) zero = inner_deeper es zero
inner_deeper (nothing ∷ es) (suc d) = inner_deeper es (suc d)

-- ---- components by the entry at hand

pub inner_past : inner_of [] 0 ≡ no_more
unfolding inner_of
inner_past = refl

module _ (es : List Entry) where
  pub inner_closed : inner_of (end ∷ es) 0 ≡ no_more
  unfolding inner_of
  inner_closed = refl

  pub inner_beside : (x : Entry) → is_aside x ≡ true → inner_of (x ∷ es) 0 ≡ inner_of es 0
  unfolding inner_of
  inner_beside (begin n) h = absurd (false≢true h)
  inner_beside end h = absurd (false≢true h)
  inner_beside (property l) h = refl
  inner_beside nothing h = refl

-- ---- properties in two components in which each line states the same

module _ (a b : List ℕ) (h : (l : ContentLine) → property_of a l ≡ property_of b l) where
  pub own_same : (es : List Entry) (d : ℕ) → own_of a es d ≡ own_of b es d
  unfolding own_of
  own_same [] d = refl
  own_same (begin n ∷ es) d = own_same es (suc d)
  own_same (end ∷ es) zero = refl
  own_same (end ∷ es) (suc d) = own_same es d
  own_same (property l ∷ es) zero = rw (h l, own_same es zero)
  own_same (property l ∷ es) (suc d) = own_same es (suc d)
  own_same (nothing ∷ es) zero = own_same es zero
  own_same (nothing ∷ es) (suc d) = own_same es (suc d)
