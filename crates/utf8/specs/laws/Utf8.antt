-- Laws of what specs/Utf8.antt defines.
--     bad_append      after bytes that are well formed the check begins again;   good_append, good_split: two lists of bytes and their joining
--     ascii_good, visible_good    bytes of ASCII are well formed
use Rattle.std.specs.Prelude.{◌≡◌, refl, Bool, true, false, List, [], ◌∷◌, ℕ, zero, suc, ◌+◌, ◌≤◌, ◌<◌, eqb, leb, length, Option, None, Some}
use Rattle.std.proofs.Common.{sym, ap, ◌∙◌, arith, le-leb, leb-true}
use Rattle.std.proofs.lemmas.Bool.{false≢true}
use Rattle.octets.specs.Pick.{pick, within, ◌and◌}
use Rattle.octets.specs.laws.Pick.{within_yes, or_left, pick_either, and_both}
use Rattle.octets.specs.Scan.{all_of}
use Rattle.octets.specs.Append.{◌⊕◌}
use Rattle.octets.specs.Class.{is_visible}
use Rattle.octets.specs.Reading.{is_read}
use Rattle.utf8.specs.Utf8.{is_ascii, more, low, high, high_after, tails, is_sequence, bad_from, first_bad, tail_at, well_formed}

pub well_formed_good : (s : List ℕ) → well_formed s ≡ true → first_bad s ≡ None
unfolding well_formed is_read pick
well_formed_good s h = go (first_bad s) refl h
  where
    go : (o : Option ℕ) → first_bad s ≡ o → pick (is_read o) false true ≡ true → first_bad s ≡ None
    go None e k = e
    go (Some i) e k = absurd (false≢true k)

pub good_well_formed : (s : List ℕ) → first_bad s ≡ None → well_formed s ≡ true
unfolding well_formed is_read pick
good_well_formed s h = rw h

-- the index only moves what is found
pub good_shifted : (s : List ℕ) (k i j : ℕ) → bad_from k i s ≡ None → bad_from k j s ≡ None
unfolding bad_from pick
good_shifted [] k i j h = refl
good_shifted (b ∷ s) (suc k) i j h = good_shifted s k (i + 1) (j + 1) h
good_shifted (a ∷ s) zero i j h = go (is_sequence a s) h (good_shifted s (more a) (i + 1) (j + 1))
  where
    go : (t : Bool) → pick t (bad_from (more a) (i + 1) s) (Some i) ≡ None → (bad_from (more a) (i + 1) s ≡ None → bad_from (more a) (j + 1) s ≡ None) →
        pick t (bad_from (more a) (j + 1) s) (Some j) ≡ None
    go true h ih = ih h
    go false h ih = absurd (let z : ◌≡◌ {A = ℕ} 0 1 = cc in omega arith)

-- what is found lies in the list
bad_within : (s : List ℕ) (k i j : ℕ) → bad_from k i s ≡ Some j → (i ≤ j) × (j < i + length s)
unfolding bad_from pick
bad_within [] k i j h = absurd (let z : ◌≡◌ {A = ℕ} 0 1 = cc in omega arith)
bad_within (b ∷ s) (suc k) i j h = let e = bad_within s k (i + 1) j h in (omega arith, omega arith)
bad_within (a ∷ s) zero i j h = go (is_sequence a s) h (bad_within s (more a) (i + 1) j)
  where
    go : (t : Bool) → pick t (bad_from (more a) (i + 1) s) (Some i) ≡ Some j → (bad_from (more a) (i + 1) s ≡ Some j → (i + 1 ≤ j) × (j < i + 1 + length s)) →
        (i ≤ j) × (j < i + suc (length s))
    go true h ih = let e = ih h in (omega arith, omega arith)
    go false h ih = let e : i ≡ j = cc in (omega arith, omega arith)

pub bad_inside : (s : List ℕ) (j : ℕ) → first_bad s ≡ Some j → j < length s
bad_inside s j h = let e = bad_within s 0 0 j h in omega arith

-- tail bytes that are there are there whatever follows
tails_append : (a b : List ℕ) (n lo hi : ℕ) (l : Bool) → tails n lo hi l a ≡ true → (n ≤ length a) × (tails n lo hi l (a ⊕ b) ≡ true)
unfolding tails ◌⊕◌ ◌and◌
tails_append a b zero lo hi l h = (omega arith, refl)
tails_append [] b (suc n) lo hi l h = absurd (false≢true h)
tails_append (x ∷ a) b (suc n) lo hi l h =
    let e = and_both (within lo hi x) (tails n 0x80 (high_after l x) false a) h in
    let ih = tails_append a b n 0x80 (high_after l x) false e.1 in
    (omega (arith, ih.0), rw e.0 ih.1)

from_append : (a b : List ℕ) (k i : ℕ) → k ≤ length a → bad_from k i a ≡ None → bad_from k i (a ⊕ b) ≡ bad_from 0 (i + length a) b
unfolding bad_from pick ◌⊕◌ ◌and◌
from_append [] b zero i l h = ap (λ (n : ℕ). bad_from 0 n b) (omega arith)
from_append [] b (suc k) i l h = absurd (omega arith)
from_append (x ∷ a) b (suc k) i l h = from_append a b k (i + 1) (omega arith) h ∙ ap (λ (n : ℕ). bad_from 0 n b) (omega arith)
from_append (x ∷ a) b zero i l h = go (is_sequence x a) refl h (λ l h. from_append a b (more x) (i + 1) l h ∙ ap (λ (n : ℕ). bad_from 0 n b) (omega arith))
  where
    go : (t : Bool) → is_sequence x a ≡ t → pick t (bad_from (more x) (i + 1) a) (Some i) ≡ None →
        (more x ≤ length a → bad_from (more x) (i + 1) a ≡ None → bad_from (more x) (i + 1) (a ⊕ b) ≡ bad_from 0 (i + suc (length a)) b) →
        bad_from 0 i ((x ∷ a) ⊕ b) ≡ bad_from 0 (i + suc (length a)) b
    go true e h ih =
        let s = and_both (leb (more x) 3) (tails (more x) (low x) (high x) (eqb x 0xEF) a) e in
        let t = tails_append a b (more x) (low x) (high x) (eqb x 0xEF) s.1 in
        rw (s.0, t.1) (ih t.0 h)
    go false e h ih = absurd (let z : ◌≡◌ {A = ℕ} 0 1 = cc in omega arith)

pub bad_append : (a b : List ℕ) (i : ℕ) → first_bad a ≡ None → bad_from 0 i (a ⊕ b) ≡ bad_from 0 (i + length a) b
bad_append a b i h = from_append a b 0 i (omega arith) (good_shifted a 0 0 i h)

pub good_append : (a b : List ℕ) → first_bad a ≡ None → first_bad b ≡ None → first_bad (a ⊕ b) ≡ None
good_append a b h k = bad_append a b 0 h ∙ good_shifted b 0 0 (0 + length a) k

-- well-formed bytes are well formed on both sides of a place where no tail byte stands
pub low_least : (a : ℕ) → 0x80 ≤ low a
low_least a = pick_either (λ n. 0x80 ≤ n) _ _ _ (omega arith) (pick_either (λ n. 0x80 ≤ n) _ _ _ (omega arith) (omega arith))

high_most : (a : ℕ) → high a ≤ 0xBF
high_most a = pick_either (λ n. n ≤ 0xBF) _ _ _ (omega arith) (pick_either (λ n. n ≤ 0xBF) _ _ _ (omega arith) (omega arith))

tails_split : (a b : List ℕ) (n lo hi : ℕ) (l : Bool) → 0x80 ≤ lo → hi ≤ 0xBF → tail_at b ≡ false → tails n lo hi l (a ⊕ b) ≡ true → tails n lo hi l a ≡ true
unfolding tails tail_at ◌⊕◌ ◌and◌
tails_split a b zero lo hi l p q t h = refl
tails_split [] [] (suc n) lo hi l p q t h = h
tails_split [] (y ∷ b) (suc n) lo hi l p q t h =
    let e = (and_both (within lo hi y) (tails n 0x80 (high_after l y) false b) h).0 in
    let f = and_both (leb lo y) (leb y hi) e in
    let g = leb-true lo y f.0 in
    let k = leb-true y hi f.1 in
    absurd (false≢true (sym t ∙ within_yes 0x80 0xBF y (le-leb 0x80 y (omega arith)) (le-leb y 0xBF (omega arith))))
tails_split (x ∷ a) b (suc n) lo hi l p q t h =
    let e = and_both (within lo hi x) (tails n 0x80 (high_after l x) false (a ⊕ b)) h in
    let m : high_after l x ≤ 0xBF = pick_either (λ k. k ≤ 0xBF) _ _ _ (omega arith) (omega arith) in
    rw e.0 (tails_split a b n 0x80 (high_after l x) false (omega arith) m t e.1)

from_split : (a b : List ℕ) (k i : ℕ) → k ≤ length a → tail_at b ≡ false → bad_from k i (a ⊕ b) ≡ None → bad_from k i a ≡ None
unfolding bad_from pick ◌⊕◌ ◌and◌
from_split [] b k i l t h = refl
from_split (x ∷ a) b (suc k) i l t h = from_split a b k (i + 1) (omega arith) t h
from_split (x ∷ a) b zero i l t h = go (is_sequence x (a ⊕ b)) refl h (λ l h. from_split a b (more x) (i + 1) l t h)
  where
    go : (u : Bool) → is_sequence x (a ⊕ b) ≡ u → pick u (bad_from (more x) (i + 1) (a ⊕ b)) (Some i) ≡ None →
        (more x ≤ length a → bad_from (more x) (i + 1) (a ⊕ b) ≡ None → bad_from (more x) (i + 1) a ≡ None) → bad_from 0 i (x ∷ a) ≡ None
    go true e h ih =
        let s = and_both (leb (more x) 3) (tails (more x) (low x) (high x) (eqb x 0xEF) (a ⊕ b)) e in
        let t = tails_split a b (more x) (low x) (high x) (eqb x 0xEF) (low_least x) (high_most x) t s.1 in
        rw (s.0, t) (ih (tails_append a b (more x) (low x) (high x) (eqb x 0xEF) t).0 h)
    go false e h ih = absurd (let z : ◌≡◌ {A = ℕ} 0 1 = cc in omega arith)

pub good_split : (a b : List ℕ) → tail_at b ≡ false → first_bad (a ⊕ b) ≡ None → (first_bad a ≡ None) × (first_bad b ≡ None)
good_split a b t h =
    let g : first_bad a ≡ None = from_split a b 0 0 (omega arith) t h in
    (g, good_shifted b 0 (0 + length a) 0 (sym (bad_append a b 0 g) ∙ h))

-- a byte of ASCII is a character
pub ascii_first : (a i : ℕ) (s : List ℕ) → is_ascii a ≡ true → bad_from 0 i (a ∷ s) ≡ bad_from 0 (i + 1) s
unfolding bad_from tails pick ◌and◌
ascii_first a i s h = rw h

all_good : (s : List ℕ) (i : ℕ) (p : ℕ → Bool) → ((b : ℕ) → p b ≡ true → is_ascii b ≡ true) → all_of p s ≡ true → bad_from 0 i s ≡ None
unfolding bad_from all_of pick
all_good [] i p f h = refl
all_good (a ∷ s) i p f h = go (p a) refl h (all_good s (i + 1) p f)
  where
    go : (t : Bool) → p a ≡ t → pick t (all_of p s) false ≡ true → (all_of p s ≡ true → bad_from 0 (i + 1) s ≡ None) → bad_from 0 i (a ∷ s) ≡ None
    go true e h ih = ascii_first a i s (f a e) ∙ ih h
    go false e h ih = absurd (false≢true h)

pub ascii_good : (s : List ℕ) → all_of is_ascii s ≡ true → first_bad s ≡ None
ascii_good s h = all_good s 0 is_ascii (λ b h. h) h

pub visible_good : (s : List ℕ) → all_of is_visible s ≡ true → first_bad s ≡ None
visible_good s h = all_good s 0 is_visible wide h
  where
    wide : (b : ℕ) → is_visible b ≡ true → is_ascii b ≡ true
    wide b h =
        let e = and_both (leb 33 b) (leb b 126) h in
        let l = leb-true 33 b e.0 in
        or_left _ _ (within_yes 0x20 0x7E b (le-leb 0x20 b (omega arith)) e.1)
