-- Laws of what specs/Words.antt defines.
--     same_true, same_either    it is equality
--     starts-length    and is no longer
--     holds_neither, holds_split, all_without    where it does not
--     cut_joined    cutting takes it back
--     joined_without    nor do they joined
use Rattle.std.specs.Prelude.{◌≡◌, refl, Bool, true, false, List, [], ◌∷◌, ℕ, ◌≤◌, eqb, length}
use Rattle.std.proofs.Common.{sym, ap, ◌∙◌, arith, eq-eqb, eqb-true}
use Rattle.std.proofs.lemmas.Bool.{false≢true}
use Rattle.octets.specs.Pick.{pick, ◌and◌, ◌or◌}
use Rattle.octets.specs.laws.Pick.{or_neither, pick_second, eqb_apart, eqb_swap, and_both}
use Rattle.octets.specs.Scan.{all_of}
use Rattle.octets.specs.laws.Scan.{all_split}
use Rattle.octets.specs.Append.{◌⊕◌}
use Rattle.octets.specs.laws.Append.{append_none}
use Rattle.octets.specs.Words.{same, starts, is_empty, holds, onto, cut_at, each_after, joined_by, none_holds}

-- ---- words compared

pub same_self : (s : List ℕ) → same s s ≡ true
unfolding same ◌and◌
same_self [] = refl
same_self (x ∷ s) = rw (eq-eqb x x refl) (same_self s)

pub same_true : (s t : List ℕ) → same s t ≡ true → s ≡ t
unfolding same ◌and◌
same_true [] [] h = refl
same_true [] (y ∷ t) h = let z : ◌≡◌ {A = Bool} false true = h in absurd (false≢true z)
same_true (x ∷ s) [] h = let z : ◌≡◌ {A = Bool} false true = h in absurd (false≢true z)
same_true (x ∷ s) (y ∷ t) h = go (eqb x y) refl h (same_true s t)
  where
    go : (b : Bool) → eqb x y ≡ b → (b and same s t) ≡ true → (same s t ≡ true → s ≡ t) → x ∷ s ≡ y ∷ t
    go true e k ih = let p : x ≡ y = eqb-true x y e in let q : s ≡ t = ih k in cc
    go false e k ih = absurd (false≢true k)

pub same_swap : (s t : List ℕ) → same s t ≡ false → same t s ≡ false
same_swap s t h = go (same t s) refl
  where
    go : (b : Bool) → same t s ≡ b → b ≡ false
    go true e = absurd (false≢true (sym h ∙ rw (same_true t s e) (same_self s)))
    go false e = refl

pub same_either : (s t : List ℕ) → same s t ≡ same t s
same_either s t = go (same s t) refl
  where
    go : (b : Bool) → same s t ≡ b → b ≡ same t s
    go true e = sym (rw (same_true s t e) (same_self t))
    go false e = sym (same_swap s t e)

-- a word that passes a test is not one that fails it
pub same_apart : (p : List ℕ → Bool) (w v : List ℕ) → p w ≡ true → p v ≡ false → same w v ≡ false
same_apart p w v h k = go (same w v) refl
  where
    go : (t : Bool) → same w v ≡ t → t ≡ false
    go true e = absurd (false≢true (sym k ∙ ap p (sym (same_true w v e)) ∙ h))
    go false e = refl

pub empty_is : {A : Type 0} (s : List A) → is_empty s ≡ true → s ≡ []
empty_is [] h = refl
empty_is (x ∷ s) h = absurd (false≢true h)

pub starts-length : (p s : List ℕ) → starts p s ≡ true → length p ≤ length s
unfolding starts
starts-length [] s h = omega arith
starts-length (x ∷ p) [] h = absurd (false≢true h)
starts-length (x ∷ p) (y ∷ s) h = let l = starts-length p s (and_both (eqb x y) (starts p s) h).1 in omega arith

-- ---- a byte that does not stand there

pub holds_split : (c x : ℕ) (s : List ℕ) → holds c (x ∷ s) ≡ false → (eqb c x ≡ false) × (holds c s ≡ false)
unfolding holds
holds_split c x s h = or_neither (eqb c x) (holds c s) h

pub holds_neither : (c : ℕ) (a b : List ℕ) → holds c a ≡ false → holds c b ≡ false → holds c (a ⊕ b) ≡ false
unfolding holds ◌⊕◌ ◌or◌
holds_neither c [] b p q = q
holds_neither c (x ∷ a) b p q = let h = holds_split c x a p in rw h.0 (holds_neither c a b h.1 q)

-- bytes that pass a test hold none that fails it
pub all_without : (p : ℕ → Bool) (c : ℕ) → p c ≡ false → (s : List ℕ) → all_of p s ≡ true → holds c s ≡ false
unfolding holds ◌or◌
all_without p c f [] h = refl
all_without p c f (x ∷ s) h = let q = all_split p x s h in rw (eqb_swap x c (eqb_apart p x c q.0 f)) (all_without p c f s q.1)

pub none_split : (c : ℕ) (p : List ℕ) (ps : List (List ℕ)) → none_holds c (p ∷ ps) ≡ true → (holds c p ≡ false) × (none_holds c ps ≡ true)
unfolding none_holds
none_split c p ps h = pick_second (holds c p) (none_holds c ps) h

after_without : (x c : ℕ) (ps : List (List ℕ)) → eqb x c ≡ false → none_holds x ps ≡ true → holds x (each_after c ps) ≡ false
unfolding holds each_after ◌or◌
after_without x c [] e h = refl
after_without x c (p ∷ ps) e h = let q = none_split x p ps h in rw e (holds_neither x p (each_after c ps) q.0 (after_without x c ps e q.1))

-- pieces that do not hold a byte, joined by another byte
pub joined_without : (x c : ℕ) (ps : List (List ℕ)) → eqb x c ≡ false → none_holds x ps ≡ true → holds x (joined_by c ps) ≡ false
unfolding holds joined_by
joined_without x c [] e h = refl
joined_without x c (p ∷ ps) e h = let q = none_split x p ps h in holds_neither x p (each_after c ps) q.0 (after_without x c ps e q.1)

-- ---- cutting takes joining back

-- there is always a piece
pub cut_some : (c : ℕ) (s : List ℕ) → is_empty (cut_at c s) ≡ false
unfolding cut_at pick onto
cut_some c [] = refl
cut_some c (b ∷ s) = go (eqb b c) (cut_at c s)
  where
    go : (t : Bool) (l : List (List ℕ)) → is_empty (pick t ([] ∷ l) (onto b l)) ≡ false
    go true l = refl
    go false [] = refl
    go false (p ∷ l) = refl

-- joined pieces that hold no separator are cut where they were joined
cut_piece : (c : ℕ) (p : List ℕ) → holds c p ≡ false → cut_at c p ≡ p ∷ []
unfolding holds cut_at onto pick ◌or◌
cut_piece c [] h = refl
cut_piece c (b ∷ p) h = go (eqb c b) refl h (cut_piece c p)
  where
    go : (t : Bool) → eqb c b ≡ t → (t or holds c p) ≡ false → (holds c p ≡ false → cut_at c p ≡ p ∷ []) →
        pick (eqb b c) ([] ∷ cut_at c p) (onto b (cut_at c p)) ≡ (b ∷ p) ∷ []
    go true e k ih = absurd (false≢true (sym k))
    go false e k ih = rw (eqb_swap c b e, ih k)

cut_front : (c : ℕ) (p s : List ℕ) → holds c p ≡ false → cut_at c (p ⊕ (c ∷ s)) ≡ p ∷ cut_at c s
unfolding holds cut_at onto pick ◌or◌ ◌⊕◌
cut_front c [] s h = rw (eq-eqb c c refl)
cut_front c (b ∷ p) s h = go (eqb c b) refl h (cut_front c p s)
  where
    go : (t : Bool) → eqb c b ≡ t → (t or holds c p) ≡ false → (holds c p ≡ false → cut_at c (p ⊕ (c ∷ s)) ≡ p ∷ cut_at c s) →
        pick (eqb b c) ([] ∷ cut_at c (p ⊕ (c ∷ s))) (onto b (cut_at c (p ⊕ (c ∷ s)))) ≡ (b ∷ p) ∷ cut_at c s
    go true e k ih = absurd (false≢true (sym k))
    go false e k ih = rw (eqb_swap c b e, ih k)

pub cut_joined : (c : ℕ) (p : List ℕ) (ps : List (List ℕ)) → none_holds c (p ∷ ps) ≡ true → cut_at c (joined_by c (p ∷ ps)) ≡ p ∷ ps
unfolding none_holds joined_by each_after pick
cut_joined c p [] h = go (holds c p) refl h
  where
    go : (t : Bool) → holds c p ≡ t → pick t false true ≡ true → cut_at c (p ⊕ []) ≡ p ∷ []
    go true e k = absurd (false≢true k)
    go false e k = rw append_none (cut_piece c p e)
cut_joined c p (q ∷ ps) h = go (holds c p) refl h (cut_joined c q ps)
  where
    go : (t : Bool) → holds c p ≡ t → pick t false (none_holds c (q ∷ ps)) ≡ true → (none_holds c (q ∷ ps) ≡ true → cut_at c (joined_by c (q ∷ ps)) ≡ q ∷ ps) →
        cut_at c (p ⊕ (c ∷ (q ⊕ each_after c ps))) ≡ p ∷ q ∷ ps
    go true e k ih = absurd (false≢true k)
    go false e k ih = cut_front c p (q ⊕ each_after c ps) e ∙ ap (λ (l : List (List ℕ)). p ∷ l) (ih k)
