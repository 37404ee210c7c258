-- Words and their places in a list.
--     one_at, place_back    the word at a place is one of the list, and has that place where no word stands twice;   place_again: the same of a word's place
--     name_place, placed    the word at the place of a word that is there, and of any
--     same_place            words are the same where their places are;   same_place_first: the other way round
use Rattle.std.specs.Prelude.{◌≡◌, refl, Bool, true, false, List, [], ◌∷◌, ℕ, zero, suc, ◌≤◌, ◌<◌, eqb, length, get_or}
use Rattle.std.proofs.Common.{sym, ap, ◌∙◌, arith, eq-eqb, ne_eqb, ltb-true}
use Rattle.std.proofs.lemmas.Bool.{false≢true, eqb-false}
use Rattle.std.proofs.Math.Decide.{dec_le}
use Rattle.std.proofs.Math.ListN.{get_or-eq_default}
use Rattle.octets.specs.Pick.{pick, ◌or◌}
use Rattle.octets.specs.laws.Pick.{or_right, pick_second}
use Rattle.octets.specs.Words.{same, is_one_of}
use Rattle.octets.specs.laws.Words.{same_self, same_true, same_swap}
use Rattle.octets.specs.Lists.{distinct}
use Rattle.names.specs.Table.{place_of}
use Rattle.names.specs.laws.Table.{place_within, one_of_place}
use Rattle.names.specs.laws.Known.{word_at}

-- ---- the word at a place

pub one_at : (ws : List (List ℕ)) (p : ℕ) → p < length ws → is_one_of (get_or ws p []) ws ≡ true
unfolding is_one_of ◌or◌
one_at [] p h = absurd (omega arith)
one_at (x ∷ ws) zero h = rw (same_self x)
one_at (x ∷ ws) (suc p) h = or_right (same (get_or ws p []) x) (is_one_of (get_or ws p []) ws) (one_at ws p (omega arith))

pub place_back : (ws : List (List ℕ)) (p : ℕ) → distinct ws ≡ true → p < length ws → place_of (get_or ws p []) ws ≡ p
unfolding place_of distinct pick
place_back [] p d h = absurd (omega arith)
place_back (x ∷ ws) zero d h = rw (same_self x)
place_back (x ∷ ws) (suc p) d h =
    let k = pick_second (is_one_of x ws) (distinct ws) d in
    go (same (get_or ws p []) x) refl k.0 (place_back ws p k.1 (omega arith))
  where
    go : (t : Bool) → same (get_or ws p []) x ≡ t → is_one_of x ws ≡ false → place_of (get_or ws p []) ws ≡ p → pick t 0 (suc (place_of (get_or ws p []) ws)) ≡ suc p
    go true e k ih = absurd (false≢true (sym k ∙ rw (← (same_true (get_or ws p []) x e)) (one_at ws p (omega arith))))
    go false e k ih = ap suc ih

-- where the list has no empty word, what is not there has the place of no bytes
pub place_again : (w : List ℕ) (ws : List (List ℕ)) → distinct ws ≡ true → place_of [] ws ≡ length ws → place_of (get_or ws (place_of w ws) []) ws ≡ place_of w ws
place_again w ws d z = go (dec_le (length ws) (place_of w ws))
  where
    go : Dec (length ws ≤ place_of w ws) → place_of (get_or ws (place_of w ws) []) ws ≡ place_of w ws
    go (yes h) = let k : length ws ≡ place_of w ws = omega (arith, place_within w ws) in rw (get_or-eq_default ws [] h) (z ∙ k)
    go (no h) = place_back ws (place_of w ws) d (omega (arith, h))

pub name_place : (w : List ℕ) (ws : List (List ℕ)) → is_one_of w ws ≡ true → get_or ws (place_of w ws) [] ≡ w
name_place w ws h = sym (word_at w ws (ltb-true (place_of w ws) (length ws) (sym (one_of_place w ws) ∙ h)))

pub placed : (w : List ℕ) (ws : List (List ℕ)) → get_or ws (place_of w ws) [] ≡ pick (is_one_of w ws) w []
unfolding place_of is_one_of pick ◌or◌
placed w [] = refl
placed w (x ∷ ws) = go (same w x) refl (placed w ws)
  where
    go : (t : Bool) → same w x ≡ t → get_or ws (place_of w ws) [] ≡ pick (is_one_of w ws) w [] →
        get_or (x ∷ ws) (pick t 0 (suc (place_of w ws))) [] ≡ pick (t or is_one_of w ws) w []
    go true e ih = sym (same_true w x e)
    go false e ih = ih

-- ---- two words

-- a word and another that is in the list: at different places where they differ
apart : (w x : List ℕ) (ws : List (List ℕ)) → is_one_of x ws ≡ true → same w x ≡ false → eqb (place_of w ws) (place_of x ws) ≡ false
unfolding place_of is_one_of pick ◌or◌
apart w x [] h d = absurd (false≢true h)
apart w x (y ∷ ws) h d = go (same w y) (same x y) refl refl h (apart w x ws)
  where
    go : (t u : Bool) → same w y ≡ t → same x y ≡ u → (u or is_one_of x ws) ≡ true → (is_one_of x ws ≡ true → same w x ≡ false → eqb (place_of w ws) (place_of x ws) ≡ false) →
        eqb (pick t 0 (suc (place_of w ws))) (pick u 0 (suc (place_of x ws))) ≡ false
    go true true e f k ih = absurd (false≢true (sym d ∙ rw (same_true w y e, same_true x y f) (same_self y)))
    go true false e f k ih = ne_eqb 0 (suc (place_of x ws)) (λ q. omega arith)
    go false true e f k ih = ne_eqb (suc (place_of w ws)) 0 (λ q. omega arith)
    go false false e f k ih = ne_eqb (suc (place_of w ws)) (suc (place_of x ws)) (λ q. eqb-false (place_of w ws) (place_of x ws) (ih k d) (omega arith))

pub same_place : (w x : List ℕ) (ws : List (List ℕ)) → is_one_of x ws ≡ true → same w x ≡ eqb (place_of w ws) (place_of x ws)
same_place w x ws h = go (same w x) refl
  where
    go : (t : Bool) → same w x ≡ t → t ≡ eqb (place_of w ws) (place_of x ws)
    go true e = sym (eq-eqb _ _ (ap (λ (v : List ℕ). place_of v ws) (same_true w x e)))
    go false e = sym (apart w x ws h e)

pub same_place_first : (w x : List ℕ) (ws : List (List ℕ)) → is_one_of x ws ≡ true → same x w ≡ eqb (place_of x ws) (place_of w ws)
same_place_first w x ws h = go (same x w) refl
  where
    go : (t : Bool) → same x w ≡ t → t ≡ eqb (place_of x ws) (place_of w ws)
    go true e = sym (eq-eqb _ _ (ap (λ (v : List ℕ). place_of v ws) (same_true x w e)))
    go false e = sym (ne_eqb (place_of x ws) (place_of w ws) (λ q. eqb-false (place_of w ws) (place_of x ws) (apart w x ws h (same_swap x w e)) (sym q)))
