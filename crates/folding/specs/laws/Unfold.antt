-- Laws of what specs/Unfold.antt defines.
--     unfolded_front    what then stands in front
--     origin_byte, origin_past, origin_monotone    what stands at such a place
--     unfolded_append    of two texts, where no fold goes over the seam
use Rattle.std.specs.Prelude.{◌≡◌, refl, Bool, true, false, List, [], ◌∷◌, ℕ, zero, suc, ◌+◌, ◌-◌, ◌≤◌, ◌<◌, eqb, length, get_or, take, drop}
use Rattle.std.proofs.Common.{sym, ap, ◌∙◌, arith, take_at}
use Rattle.std.proofs.lemmas.Bool.{false≢true}
use Rattle.std.proofs.Math.ListN.{get_or-eq_default}
use Rattle.octets.specs.Pick.{◌and◌, ◌or◌}
use Rattle.octets.specs.laws.Pick.{or_neither}
use Rattle.octets.specs.Append.{◌⊕◌}
use Rattle.octets.specs.Words.{starts}
use Rattle.folding.specs.Unfold.{blank_at, fold_at, fold_goes_on, keep, kept_from, unfolded, places_from, places, origin, Unfolds}

-- the front of a text: a byte that is no CR, a fold, the end of a line
pub unfolded_byte : (b : ℕ) (s : List ℕ) → eqb 13 b ≡ false → unfolded (b ∷ s) ≡ b ∷ unfolded s
unfolding kept_from keep fold_at starts ◌and◌ ◌or◌
unfolded_byte b s h = rw h

pub unfolded_fold : (s : List ℕ) → unfolded (13 ∷ 10 ∷ 32 ∷ s) ≡ unfolded s
unfolding kept_from keep fold_at starts ◌and◌ ◌or◌
unfolded_fold s = refl

pub unfolded_end : (s : List ℕ) → blank_at s ≡ false → unfolded (13 ∷ 10 ∷ s) ≡ 13 ∷ 10 ∷ unfolded s
unfolding kept_from keep fold_at blank_at starts ◌and◌ ◌or◌
unfolded_end s h = rw h

-- what stands in front of lent bytes after unfolding
pub unfolded_front : {s d e : List ℕ} {r : ℕ} → Unfolds s d e r → take r e ≡ unfolded s
unfolding ◌⊕◌
unfolded_front {s} {d} {e} {r} u = rw u.is (take_at (unfolded s) (drop (length (unfolded s)) d) r (sym u.count))

-- there are as many places as kept bytes, and no more than bytes
places_length : (s : List ℕ) (p k : ℕ) → length (places_from s p k) ≡ length (kept_from s k)
unfolding places_from kept_from keep
places_length [] p k = refl
places_length (a ∷ s) p zero = go (fold_at (a ∷ s)) (places_length s (p + 1))
  where
    go : (t : Bool) → ((k : ℕ) → length (places_from s (p + 1) k) ≡ length (kept_from s k)) →
        length (keep t p (places_from s (p + 1))) ≡ length (keep t a (kept_from s))
    go true ih = ih 2
    go false ih = ap suc (ih 0)
places_length (a ∷ s) p (suc k) = places_length s (p + 1) k

pub length-places : (s : List ℕ) → length (places s) ≡ length (unfolded s)
length-places s = places_length s 0 0

kept_length : (s : List ℕ) (k : ℕ) → length (kept_from s k) ≤ length s
unfolding kept_from keep
kept_length [] k = omega arith
kept_length (a ∷ s) zero = go (fold_at (a ∷ s)) (kept_length s)
  where
    go : (t : Bool) → ((k : ℕ) → length (kept_from s k) ≤ length s) → length (keep t a (kept_from s)) ≤ suc (length s)
    go true ih = let h = ih 2 in omega arith
    go false ih = let h = ih 0 in omega arith
kept_length (a ∷ s) (suc k) = let h = kept_length s k in omega arith

pub length-unfolded : (s : List ℕ) → length (unfolded s) ≤ length s
length-unfolded s = kept_length s 0

-- a place lies past those before it, below what stands for no place, and its byte is the kept byte
place_low : (s : List ℕ) (p k w d : ℕ) → p + length s ≤ d → p ≤ get_or (places_from s p k) w d
unfolding places_from keep
place_low [] p k w d h = omega arith
place_low (a ∷ s) p zero w d h = go (fold_at (a ∷ s)) w (λ (k w : ℕ). place_low s (p + 1) k w d (omega arith))
  where
    go : (t : Bool) (w : ℕ) → ((k w : ℕ) → p + 1 ≤ get_or (places_from s (p + 1) k) w d) → p ≤ get_or (keep t p (places_from s (p + 1))) w d
    go true w ih = let g = ih 2 w in omega arith
    go false zero ih = omega arith
    go false (suc w) ih = let g = ih 0 w in omega arith
place_low (a ∷ s) p (suc k) w d h = let g = place_low s (p + 1) k w d (omega arith) in omega arith

place_later : (s : List ℕ) (p k w v d : ℕ) → p + length s ≤ d → w ≤ v → get_or (places_from s p k) w d ≤ get_or (places_from s p k) v d
unfolding places_from keep
place_later [] p k w v d h l = omega arith
place_later (a ∷ s) p zero w v d h l = go (fold_at (a ∷ s)) w v l (λ (k w v : ℕ) l. place_later s (p + 1) k w v d (omega arith) l)
  where
    go : (t : Bool) (w v : ℕ) → w ≤ v → ((k w v : ℕ) → w ≤ v → get_or (places_from s (p + 1) k) w d ≤ get_or (places_from s (p + 1) k) v d) →
        get_or (keep t p (places_from s (p + 1))) w d ≤ get_or (keep t p (places_from s (p + 1))) v d
    go true w v l ih = ih 2 w v l
    go false zero zero l ih = omega arith
    go false zero (suc v) l ih = let g = place_low s (p + 1) 0 v d (omega arith) in omega arith
    go false (suc w) zero l ih = absurd (omega arith)
    go false (suc w) (suc v) l ih = ih 0 w v (omega arith)
place_later (a ∷ s) p (suc k) w v d h l = place_later s (p + 1) k w v d (omega arith) l

place_inside : (s : List ℕ) (p k w d : ℕ) → w < length (kept_from s k) → get_or (places_from s p k) w d < p + length s
unfolding places_from kept_from keep
place_inside [] p k w d h = absurd (omega arith)
place_inside (a ∷ s) p zero w d h = go (fold_at (a ∷ s)) w h (λ (k w : ℕ) l. place_inside s (p + 1) k w d l)
  where
    go : (t : Bool) (w : ℕ) → w < length (keep t a (kept_from s)) → ((k w : ℕ) → w < length (kept_from s k) → get_or (places_from s (p + 1) k) w d < p + 1 + length s) →
        get_or (keep t p (places_from s (p + 1))) w d < p + suc (length s)
    go true w h ih = let g = ih 2 w h in omega arith
    go false zero h ih = omega arith
    go false (suc w) h ih = let g = ih 0 w (omega arith) in omega arith
place_inside (a ∷ s) p (suc k) w d h = let g = place_inside s (p + 1) k w d h in omega arith

next_byte : (a : ℕ) (s : List ℕ) (p x : ℕ) → p + 1 ≤ x → get_or (a ∷ s) (x - p) 0 ≡ get_or s (x - (p + 1)) 0
next_byte a s p x h = let e : x - p ≡ suc (x - (p + 1)) = omega arith in ap (λ (n : ℕ). get_or (a ∷ s) n 0) e

place_byte : (s : List ℕ) (p k w d : ℕ) → p + length s ≤ d → get_or s (get_or (places_from s p k) w d - p) 0 ≡ get_or (kept_from s k) w 0
unfolding places_from kept_from keep
place_byte [] p k w d h = refl
place_byte (a ∷ s) p zero w d h = go (fold_at (a ∷ s)) w (λ (k w : ℕ). next_byte a s p _ (place_low s (p + 1) k w d (omega arith)) ∙ place_byte s (p + 1) k w d (omega arith))
  where
    go : (t : Bool) (w : ℕ) → ((k w : ℕ) → get_or (a ∷ s) (get_or (places_from s (p + 1) k) w d - p) 0 ≡ get_or (kept_from s k) w 0) →
        get_or (a ∷ s) (get_or (keep t p (places_from s (p + 1))) w d - p) 0 ≡ get_or (keep t a (kept_from s)) w 0
    go true w ih = ih 2 w
    go false zero ih = let e : p - p ≡ 0 = omega arith in ap (λ (n : ℕ). get_or (a ∷ s) n 0) e
    go false (suc w) ih = ih 0 w
place_byte (a ∷ s) p (suc k) w d h = next_byte a s p _ (place_low s (p + 1) k w d (omega arith)) ∙ place_byte s (p + 1) k w d (omega arith)

-- the byte at its origin is the kept byte
pub origin_byte : (s : List ℕ) (w : ℕ) → get_or s (origin s w) 0 ≡ get_or (unfolded s) w 0
unfolding origin
origin_byte s w = let e : origin s w - 0 ≡ origin s w = omega arith in ap (λ (n : ℕ). get_or s n 0) (sym e) ∙ place_byte s 0 0 w (length s) (omega arith)

pub origin_inside : (s : List ℕ) (w : ℕ) → w < length (unfolded s) → origin s w < length s
unfolding origin
origin_inside s w h = let g = place_inside s 0 0 w (length s) h in omega arith

pub origin_past : (s : List ℕ) (w : ℕ) → length (unfolded s) ≤ w → origin s w ≡ length s
unfolding origin
origin_past s w h = get_or-eq_default (places s) (length s) (rw length-places h)

pub origin_monotone : (s : List ℕ) (w v : ℕ) → w ≤ v → origin s w ≤ origin s v
unfolding origin
origin_monotone s w v h = place_later s 0 0 w v (length s) (omega arith) h

-- two texts, where no fold goes over the seam
pub fold_long : (x : ℕ) (a : List ℕ) → fold_at (x ∷ a) ≡ true → 2 ≤ length a
unfolding fold_at starts ◌and◌ ◌or◌
fold_long x [] h = go (eqb 13 x) h
  where
    go : (t : Bool) → ((t and false) or t and false) ≡ true → 2 ≤ 0
    go true h = absurd (false≢true h)
    go false h = absurd (false≢true h)
fold_long x (y ∷ []) h = go (eqb 13 x) (eqb 10 y) h
  where
    go : (t u : Bool) → ((t and u and false) or t and u and false) ≡ true → 2 ≤ 1
    go true true h = absurd (false≢true h)
    go true false h = absurd (false≢true h)
    go false u h = absurd (false≢true h)
fold_long x (y ∷ z ∷ a) h = omega arith

fold_seam : (x : ℕ) (a b : List ℕ) → fold_goes_on b ≡ false → fold_at ((x ∷ a) ⊕ b) ≡ fold_at (x ∷ a)
unfolding fold_at fold_goes_on blank_at starts ◌and◌ ◌or◌ ◌⊕◌
fold_seam x [] [] h = refl
fold_seam x [] (y ∷ b) h = go (eqb 10 y) refl (or_neither _ _ h).0
  where
    go : (u : Bool) → eqb 10 y ≡ u → (u and true) ≡ false → fold_at (x ∷ y ∷ b) ≡ fold_at (x ∷ [])
    go true e k = absurd (false≢true (sym k))
    go false e k = rw e
fold_seam x (y ∷ []) b h =
    let e = or_neither (starts (32 ∷ []) b) (starts (9 ∷ []) b) (or_neither (starts (10 ∷ []) b) (blank_at b) h).1 in
    rw (e.0, e.1)
fold_seam x (y ∷ z ∷ a) b h = refl

kept_append : (a b : List ℕ) (k : ℕ) → k ≤ length a → fold_goes_on b ≡ false → kept_from (a ⊕ b) k ≡ kept_from a k ⊕ unfolded b
unfolding kept_from keep ◌⊕◌
kept_append [] b zero l h = refl
kept_append [] b (suc k) l h = absurd (omega arith)
kept_append (x ∷ a) b zero l h = rw (fold_seam x a b h) (go (fold_at (x ∷ a)) refl (λ (k : ℕ) l. kept_append a b k l h))
  where
    go : (t : Bool) → fold_at (x ∷ a) ≡ t → ((k : ℕ) → k ≤ length a → kept_from (a ⊕ b) k ≡ kept_from a k ⊕ unfolded b) →
        keep t x (kept_from (a ⊕ b)) ≡ keep t x (kept_from a) ⊕ unfolded b
    go true e ih = ih 2 (fold_long x a e)
    go false e ih = ap (λ (s : List ℕ). x ∷ s) (ih 0 (omega arith))
kept_append (x ∷ a) b (suc k) l h = kept_append a b k (omega arith) h

pub unfolded_append : (a b : List ℕ) → fold_goes_on b ≡ false → unfolded (a ⊕ b) ≡ unfolded a ⊕ unfolded b
unfolded_append a b h = kept_append a b 0 (omega arith) h
