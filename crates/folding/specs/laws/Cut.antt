-- Laws of what specs/Cut.antt defines.
--     kept_cut          a cut where none are
--     skip_on           a cut further on;   skip_take: in what was cut further on;   skip_all: at the end
--     origin_kept       the place of the kept byte that stands at an index
use Rattle.std.specs.Prelude.{◌≡◌, refl, Bool, true, false, List, [], ◌∷◌, ℕ, zero, suc, ◌+◌, ◌-◌, ◌≤◌, ◌<◌, eqb, length, take, drop, get_or}
use Rattle.std.proofs.Common.{sym, ap, ◌∙◌, arith, length-drop, drop_of_length-le, drop-drop}
use Rattle.std.proofs.lemmas.Bool.{false≢true}
use Rattle.std.proofs.Math.Seq.{take-nil, drop-nil}
use Rattle.octets.specs.Pick.{◌and◌, ◌or◌}
use Rattle.octets.specs.Append.{◌⊕◌}
use Rattle.octets.specs.laws.Append.{length_both}
use Rattle.octets.specs.Words.{starts}
use Rattle.folding.specs.Unfold.{fold_at, keep, kept_from, unfolded, places_from, origin}
use Rattle.folding.specs.laws.Unfold.{fold_long}
use Rattle.folding.specs.Cut.{skip_of, skip_after, Passed, Behind}

-- a fold is not cut where its two other bytes are left out
fold_take : (a : ℕ) (s : List ℕ) (n : ℕ) (t : Bool) → fold_at (a ∷ s) ≡ t → skip_after s (skip_of t) n ≡ 0 → fold_at (a ∷ take n s) ≡ t
unfolding skip_after fold_at starts ◌and◌ ◌or◌
fold_take a [] zero t h k = h
fold_take a [] (suc n) t h k = h
fold_take a (b ∷ s) zero true h k = absurd (omega arith)
fold_take a (b ∷ s) zero false h k = go (eqb 13 a)
  where
    go : (x : Bool) → ((x and false) or (x and false)) ≡ false
    go true = refl
    go false = refl
fold_take a (b ∷ []) (suc zero) t h k = h
fold_take a (b ∷ c ∷ s) (suc zero) true h k = absurd (omega arith)
fold_take a (b ∷ c ∷ s) (suc zero) false h k = go (eqb 13 a) (eqb 10 b)
  where
    go : (x y : Bool) → ((x and y and false) or (x and y and false)) ≡ false
    go true true = refl
    go true false = refl
    go false y = refl
fold_take a (b ∷ []) (suc (suc n)) t h k = h
fold_take a (b ∷ c ∷ s) (suc (suc n)) t h k = h

pub kept_cut : (s : List ℕ) (k n : ℕ) → skip_after s k n ≡ 0 → kept_from s k ≡ kept_from (take n s) k ⊕ kept_from (drop n s) 0
unfolding skip_after kept_from keep ◌⊕◌
kept_cut [] k n h = rw (take-nil, drop-nil)
kept_cut (a ∷ s) k zero h = rw h
kept_cut (a ∷ s) zero (suc n) h = go (fold_at (a ∷ s)) refl h (kept_cut s)
  where
    go : (t : Bool) → fold_at (a ∷ s) ≡ t → skip_after s (skip_of t) n ≡ 0 → ((k n : ℕ) → skip_after s k n ≡ 0 → kept_from s k ≡ kept_from (take n s) k ⊕ kept_from (drop n s) 0) →
        keep t a (kept_from s) ≡ keep (fold_at (a ∷ take n s)) a (kept_from (take n s)) ⊕ kept_from (drop n s) 0
    go true e g ih = rw (fold_take a s n true e g) (ih 2 n g)
    go false e g ih = rw (fold_take a s n false e g) (ap (λ (l : List ℕ). a ∷ l) (ih 0 n g))
kept_cut (a ∷ s) (suc k) (suc n) h = kept_cut s k n h

pub skip_on : (s : List ℕ) (k n m : ℕ) → skip_after s k (n + m) ≡ skip_after (drop n s) (skip_after s k n) m
unfolding skip_after
skip_on [] k n m = rw drop-nil
skip_on (a ∷ s) k zero m = let e : 0 + m ≡ m = omega arith in rw e
skip_on (a ∷ s) zero (suc n) m = let e : suc n + m ≡ suc (n + m) = omega arith in rw e (skip_on s (skip_of (fold_at (a ∷ s))) n m)
skip_on (a ∷ s) (suc k) (suc n) m = let e : suc n + m ≡ suc (n + m) = omega arith in rw e (skip_on s k n m)

-- a cut before another: of the whole, or of what the other leaves
pub skip_take : (s : List ℕ) (k n m : ℕ) → n ≤ m → skip_after s k m ≡ 0 → skip_after (take m s) k n ≡ skip_after s k n
unfolding skip_after
skip_take [] k n m l h = rw take-nil
skip_take (a ∷ s) k zero zero l h = refl
skip_take (a ∷ s) k (suc n) zero l h = absurd (omega arith)
skip_take (a ∷ s) k zero (suc m) l h = refl
skip_take (a ∷ s) zero (suc n) (suc m) l h = go (fold_at (a ∷ s)) refl h (λ (k : ℕ) g. skip_take s k n m (omega arith) g)
  where
    go : (t : Bool) → fold_at (a ∷ s) ≡ t → skip_after s (skip_of t) m ≡ 0 → ((k : ℕ) → skip_after s k m ≡ 0 → skip_after (take m s) k n ≡ skip_after s k n) →
        skip_after (take m s) (skip_of (fold_at (a ∷ take m s))) n ≡ skip_after s (skip_of t) n
    go true e g ih = rw (fold_take a s m true e g) (ih 2 g)
    go false e g ih = rw (fold_take a s m false e g) (ih 0 g)
skip_take (a ∷ s) (suc k) (suc n) (suc m) l h = skip_take s k n m (omega arith) h

pub skip_none : (l : List ℕ) (k : ℕ) → skip_after l k 0 ≡ k
unfolding skip_after
skip_none [] k = refl
skip_none (a ∷ l) k = refl

-- at the end nothing is left to leave out
pub skip_all : (s : List ℕ) (k : ℕ) → k ≤ length s → skip_after s k (length s) ≡ 0
unfolding skip_after
skip_all [] zero l = refl
skip_all [] (suc k) l = absurd (omega arith)
skip_all (a ∷ s) zero l = go (fold_at (a ∷ s)) refl (skip_all s)
  where
    go : (t : Bool) → fold_at (a ∷ s) ≡ t → ((k : ℕ) → k ≤ length s → skip_after s k (length s) ≡ 0) → skip_after (a ∷ s) 0 (suc (length s)) ≡ 0
    go true e ih = rw e (ih 2 (fold_long a s e))
    go false e ih = rw e (ih 0 (omega arith))
skip_all (a ∷ s) (suc k) l = skip_all s k (omega arith)

-- a byte that is kept
pub kept_byte : (a : ℕ) (s : List ℕ) → fold_at (a ∷ s) ≡ false → (kept_from (a ∷ s) 0 ≡ a ∷ kept_from s 0) × (skip_after (a ∷ s) 0 1 ≡ 0)
unfolding kept_from keep skip_after
kept_byte a s h = (rw h, rw h (skip_none s 0))

-- ---- folds passed over

pub passed_here : (s : List ℕ) (c : ℕ) → c ≤ length s → Passed s c c
unfolding skip_after
passed_here s c h = record { onward = omega arith; inside = h; whole = rw (sub_self c) (skip_none (drop c s) 0); left = refl }
  where
    sub_self : (c : ℕ) → c - c ≡ 0
    sub_self c = omega arith

-- a fold at the front
fold_front : (l : List ℕ) → fold_at l ≡ true → (kept_from l 0 ≡ kept_from (drop 3 l) 0) × (skip_after l 0 3 ≡ 0) × (3 ≤ length l)
unfolding kept_from keep skip_after fold_at starts ◌and◌ ◌or◌
fold_front [] h = absurd (false≢true h)
fold_front (a ∷ []) h = absurd (go (eqb 13 a) h)
  where
    go : (x : Bool) → ((x and false) or (x and false)) ≡ true → ⊥
    go true h = false≢true h
    go false h = false≢true h
fold_front (a ∷ b ∷ []) h = absurd (go (eqb 13 a) (eqb 10 b) h)
  where
    go : (x y : Bool) → ((x and y and false) or (x and y and false)) ≡ true → ⊥
    go true true h = false≢true h
    go true false h = false≢true h
    go false y h = false≢true h
fold_front (a ∷ b ∷ c ∷ l) h = (rw h, ap (λ (t : Bool). skip_after (b ∷ c ∷ l) (skip_of t) 2) h ∙ skip_none l 0, omega arith)

pub passed_fold : (s : List ℕ) (c n : ℕ) → Passed s c n → fold_at (drop n s) ≡ true → Passed s c (n + 3)
passed_fold s c n p h =
    let f = fold_front (drop n s) h in
    let k : n - c + 3 ≡ n + 3 - c = omega (arith, p.onward) in
    let q : c + (n - c) ≡ n = omega (arith, p.onward) in
    let d : drop (n - c) (drop c s) ≡ drop n s = drop-drop (n - c) c s ∙ ap (λ (i : ℕ). drop i s) q in
    record {
      onward = omega (arith, p.onward);
      inside = omega (arith, f.2, length-drop n s);
      whole = rw (← k, skip_on (drop c s) 0 (n - c) 3, p.whole, d) f.1;
      left = p.left ∙ f.0 ∙ rw (drop-drop 3 n s);
    }

pub passed_more : (s : List ℕ) (c n : ℕ) {t : Bool} → Passed s c n → t ≡ fold_at (drop n s) → t ≡ true → Passed s c (n + 3)
passed_more s c n p e h = passed_fold s c n p (sym e ∙ h)

pub fold_fits : (s : List ℕ) (n : ℕ) {t : Bool} → t ≡ fold_at (drop n s) → t ≡ true → n + 3 ≤ length s
fold_fits s n e h = let f = (fold_front (drop n s) (sym e ∙ h)).2 in let k = length-drop n s in omega (arith, f, k)

pub behind_byte : (s : List ℕ) (c n : ℕ) {t : Bool} → Passed s c n → t ≡ fold_at (drop n s) → t ≡ false → Behind s c n
behind_byte s c n p e h = record { passed = p; stop = sym e ∙ h }

pub behind_end : (s : List ℕ) (c n : ℕ) → Passed s c n → length s ≤ n → Behind s c n
unfolding fold_at starts ◌or◌
behind_end s c n p h = record { passed = p; stop = rw (drop_of_length-le s h) }

-- ---- the place of a kept byte

place_at : (s : List ℕ) (p k c d : ℕ) → skip_after s k c ≡ 0 → fold_at (drop c s) ≡ false → c < length s → get_or (places_from s p k) (length (kept_from (take c s) k)) d ≡ p + c
unfolding skip_after places_from kept_from keep
place_at [] p k c d h f l = absurd (omega arith)
place_at (a ∷ s) p zero zero d h f l = rw f (omega arith)
place_at (a ∷ s) p (suc k) zero d h f l = absurd (omega arith)
place_at (a ∷ s) p zero (suc c) d h f l = go (fold_at (a ∷ s)) refl h (λ (k : ℕ) g. place_at s (p + 1) k c d g f (omega arith))
  where
    go : (t : Bool) → fold_at (a ∷ s) ≡ t → skip_after s (skip_of t) c ≡ 0 →
        ((k : ℕ) → skip_after s k c ≡ 0 → get_or (places_from s (p + 1) k) (length (kept_from (take c s) k)) d ≡ p + 1 + c) →
        get_or (keep t p (places_from s (p + 1))) (length (keep (fold_at (a ∷ take c s)) a (kept_from (take c s)))) d ≡ p + suc c
    go true e g ih = rw (fold_take a s c true e g) (ih 2 g ∙ omega arith)
    go false e g ih = rw (fold_take a s c false e g) (ih 0 g ∙ omega arith)
place_at (a ∷ s) p (suc k) (suc c) d h f l = place_at s (p + 1) k c d h f (omega arith) ∙ omega arith

-- so many bytes are kept before it
pub origin_kept : (s : List ℕ) (c : ℕ) → skip_after s 0 c ≡ 0 → fold_at (drop c s) ≡ false → c < length s → origin s (length (unfolded s) - length (unfolded (drop c s))) ≡ c
unfolding origin
origin_kept s c w f l =
    let e = ap length (kept_cut s 0 c w) ∙ length_both (kept_from (take c s) 0) (kept_from (drop c s) 0) in
    let n : length (kept_from s 0) - length (kept_from (drop c s) 0) ≡ length (kept_from (take c s) 0) = omega (arith, e) in
    rw n (place_at s 0 0 c (length s) w f l ∙ omega arith)
