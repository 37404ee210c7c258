-- Laws of what specs/Arrays.antt defines.
--     tallies_end    one more property at the end of the list
--     tally_count    the entry of a property's number is its tally, or 255
--     from_more, from_stop, from_end    for a loop;   from_list: of the elements of a list
use Rattle.std.specs.Prelude.{◌≡◌, refl, Bool, true, false, List, [], ◌∷◌, eqb, length, get_or, set}
use Rattle.std.proofs.Common.{sym, ap, subst, ◌∙◌, length-set, ext_get_or, get_or-set_same, get_or-set_other, eqb-true}
use Prim.Native.Nat.{ℕ, zero, suc, ◌+◌, ◌-◌, ◌≤◌, ◌<◌, min}
use native.Mathlib.Omega.{arith}
use Rattle.std.proofs.lemmas.List.{get_or-replicate, set-get_or}
use Rattle.std.proofs.lemmas.Bool.{eqb-false}
use Rattle.octets.specs.Pick.{pick, ◌and◌}
use Rattle.octets.specs.Append.{◌⊕◌}
use Rattle.octets.specs.Words.{same}
use Rattle.octets.specs.Lists.{every}
use Rattle.names.specs.Table.{place_of}
use Rattle.names.specs.laws.Places.{same_place_first}
use Rattle.calendar.specs.Calendar.{Property}
use Rattle.schema.specs.Properties.{property_names}
use Rattle.schema.specs.Counts.{tally}
use Rattle.schema.specs.Numbers.{property_name}
use Rattle.schema.specs.laws.Places.{known_property, property_at_lem}
use Rattle.schema.specs.Arrays.{bumped, tallies, each_from}

-- ---- a count that is stored one higher, one that stays at 255, and no count

pub bumped_more : (n : ℕ) (t : List ℕ) → get_or t n 0 < 255 → set t n (get_or t n 0 + 1) ≡ bumped n t
unfolding bumped
bumped_more n t h = ap (set t n) (omega arith)

pub bumped_full : (n : ℕ) (t : List ℕ) → 255 ≤ get_or t n 0 → get_or t n 0 < 256 → t ≡ bumped n t
unfolding bumped
bumped_full n t h l = sym (set-get_or t n 0) ∙ ap (set t n) (omega arith)

set_past : (t : List ℕ) (n v : ℕ) → length t ≤ n → t ≡ set t n v
set_past [] n v h = refl
set_past (x ∷ t) zero v h = absurd (omega arith)
set_past (x ∷ t) (suc n) v h = ap (λ (l : List ℕ). x ∷ l) (set_past t n v (omega arith))

pub bumped_past : (n : ℕ) (t : List ℕ) → length t ≤ n → t ≡ bumped n t
unfolding bumped
bumped_past n t h = set_past t n _ h

-- ---- the entries

pub length-tallies : (ps : List Property) → length (tallies ps) ≡ 46
unfolding tallies bumped
length-tallies [] = refl
length-tallies (p ∷ ps) = simp length-set (length-tallies ps)

length-bumped : (n : ℕ) (t : List ℕ) → length (bumped n t) ≡ length t
unfolding bumped
length-bumped n t = length-set t n (min 255 (suc (get_or t n 0)))

swapped : (a b : Bool) (n : ℕ) → pick a (suc (pick b (suc n) n)) (pick b (suc n) n) ≡ pick b (suc (pick a (suc n) n)) (pick a (suc n) n)
unfolding pick
swapped true true n = refl
swapped true false n = refl
swapped false true n = refl
swapped false false n = refl

counted : (n m : ℕ) (t : List ℕ) (c : ℕ) → n < length t → get_or t n 0 ≡ min 255 c → (b : Bool) → eqb n m ≡ b → get_or (bumped m t) n 0 ≡ min 255 (pick b (suc c) c)
unfolding bumped pick
counted n m t c l h true e =
    subst (λ (j : ℕ). get_or (set t j (min 255 (suc (get_or t j 0)))) n 0 ≡ min 255 (suc c)) (eqb-true n m e)
    (get_or-set_same t n _ 0 l ∙ rw h (omega arith))
counted n m t c l h false e = get_or-set_other t m n _ 0 (eqb-false n m e) ∙ h

pub tally_count : (n : ℕ) (ps : List Property) → n < 46 → get_or (tallies ps) n 0 ≡ min 255 (tally (property_name n) ps)
unfolding tallies tally
tally_count n [] l = get_or-replicate 46 n 0 0 l
tally_count n (p ∷ ps) l =
    rw (same_place_first p.name (property_name n) property_names (known_property n l), property_at_lem n l)
    (counted n (place_of p.name property_names) (tallies ps) (tally (property_name n) ps) (omega (arith, length-tallies ps)) (tally_count n ps l) (eqb n (place_of p.name property_names)) refl)

-- one more property at the end
tally_end : (w : List ℕ) (ps : List Property) (p : Property) → tally w (ps ⊕ (p ∷ [])) ≡ pick (same w p.name) (suc (tally w ps)) (tally w ps)
unfolding tally ◌⊕◌
tally_end w [] p = refl
tally_end w (q ∷ ps) p = rw (tally_end w ps p) (go (same w q.name) (same w p.name))
  where
    go : (a b : Bool) → pick a (suc (pick b (suc (tally w ps)) (tally w ps))) (pick b (suc (tally w ps)) (tally w ps)) ≡ pick b (suc (pick a (suc (tally w ps)) (tally w ps))) (pick a (suc (tally w ps)) (tally w ps))
    go a b = swapped a b (tally w ps)

pub tallies_end : (ps : List Property) (p : Property) → tallies (ps ⊕ (p ∷ [])) ≡ bumped (place_of p.name property_names) (tallies ps)
tallies_end ps p = ext_get_or 0 _ _ (length-tallies (ps ⊕ (p ∷ [])) ∙ sym (length-bumped (place_of p.name property_names) (tallies ps) ∙ length-tallies ps)) (λ n h. entry n (omega (arith, length-tallies (ps ⊕ (p ∷ [])))))
  where
    entry : (n : ℕ) → n < 46 → get_or (tallies (ps ⊕ (p ∷ []))) n 0 ≡ get_or (bumped (place_of p.name property_names) (tallies ps)) n 0
    entry n l =
        tally_count n (ps ⊕ (p ∷ [])) l
        ∙ rw (tally_end (property_name n) ps p, same_place_first p.name (property_name n) property_names (known_property n l), property_at_lem n l)
        (sym (counted n (place_of p.name property_names) (tallies ps) (tally (property_name n) ps) (omega (arith, length-tallies ps)) (tally_count n ps l) (eqb n (place_of p.name property_names)) refl))

-- ---- a loop over numbers

module _ (n b : ℕ) (f : ℕ → Bool) where
  pub from_more : n < b → f n ≡ true → each_from n (b - n) f ≡ each_from (n + 1) (b - (n + 1)) f
  unfolding each_from ◌and◌
  from_more h e = let q : b - n ≡ suc (b - (n + 1)) = omega arith in let s : suc n ≡ n + 1 = omega arith in rw (q, e) (ap (λ (m : ℕ). each_from m (b - (n + 1)) f) s)

  pub from_stop : n < b → f n ≡ false → each_from n (b - n) f ≡ false
  unfolding each_from ◌and◌
  from_stop h e = let q : b - n ≡ suc (b - (n + 1)) = omega arith in rw (q, e)

  pub from_end : b ≤ n → each_from n (b - n) f ≡ true
  unfolding each_from
  from_end h = let q : b - n ≡ 0 = omega arith in rw q

pub from_list : {A : Type 0} (ws : List A) (d : A) (i : ℕ) (f : ℕ → Bool) (g : A → Bool) →
    ((j : ℕ) → j < length ws → f (i + j) ≡ g (get_or ws j d)) → each_from i (length ws) f ≡ every g ws
unfolding each_from every
from_list [] d i f g h = refl
from_list (w ∷ ws) d i f g h = rw (first, from_list ws d (suc i) f g (λ j l. ap f (shift j) ∙ h (suc j) (omega arith)))
  where
    first : f i ≡ g w
    first = let e : i ≡ i + 0 = omega arith in ap f e ∙ h 0 (omega arith)

    shift : (j : ℕ) → suc i + j ≡ i + suc j
    shift j = omega arith
