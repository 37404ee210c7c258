-- Laws of what specs/Pairs.antt defines.
--     AllApart w n       the first n words are pairwise different;   `search pairwise`
--     alike              two of the first n words are the same
use Rattle.std.specs.Prelude.{◌≡◌, refl, Bool, true, false, ℕ, ◌+◌, ◌≤◌, ◌<◌, eqb, ltb}
use mathlib.Core.List.{List, []}
use Rattle.std.proofs.Common.{arith, rules, eqb-true, ltb-true, ltb-false}
use Rattle.std.proofs.lemmas.Bool.{eqb-false}
use Rattle.octets.specs.Words.{same, is_one_of}
use Rattle.octets.specs.laws.Words.{same_either}
use Rattle.octets.specs.Lists.{distinct}
use Rattle.distinct.specs.Listed.{listed}
use Rattle.distinct.specs.laws.Listed.{pair_again, all_apart}
use Rattle.distinct.specs.Order.{order}
use Rattle.distinct.specs.laws.Order.{order_same, order_apart}
use Rattle.distinct.specs.Pairs.{Apart, Again}

pub record AllApart (w : ℕ → List ℕ) (n : ℕ) : Type 0 where
  pub are : (q : ℕ) → q < n → Apart w q q

module _ {w : ℕ → List ℕ} where
  pub apart_start : (j : ℕ) → Apart w j 0
  apart_start j = record { are = λ p l. absurd (omega arith) }

  pub apart_more : {i j k : ℕ} → Apart w j i → k ≡ order (w i) (w j) → (k ≡ 0 → ⊥) → Apart w j (i + 1)
  apart_more {i} {j} {k} a e n = record { are = λ p l. go p l (eqb p i) refl }
    where
      go : (p : ℕ) → p < i + 1 → (t : Bool) → eqb p i ≡ t → same (w p) (w j) ≡ false
      go p l true x = let z : p ≡ i = eqb-true p i x in rw z (order_apart (w i) (w j) (order (w i) (w j)) refl (λ o. n (rw e o)))
      go p l false x = a.are p (omega (arith, eqb-false p i x))

  pub again_found : {i j k : ℕ} → i < j → k ≡ order (w i) (w j) → k ≡ 0 → Again w j true
  again_found {i} {j} {k} l e z = record { found = λ t n m. pair_again w n i j [] l m (order_same (w i) (w j) (rw (← e) z)); apart = λ t. let y : ◌≡◌ {A = ℕ} 0 1 = cc in absurd (omega arith) }

  pub again_none : {i j : ℕ} → Apart w j i → j ≤ i → Again w j false
  again_none a l = record { found = λ t. let y : ◌≡◌ {A = ℕ} 0 1 = cc in absurd (omega arith); apart = λ t. record { are = λ p m. a.are p (omega arith) } }

  pub all_start : AllApart w 0
  all_start = record { are = λ q l. absurd (omega arith) }

  pub all_more : {j : ℕ} {r : Bool} → AllApart w j → Again w j r → r ≡ false → AllApart w (j + 1)
  all_more {j} {r} a g h = record { are = λ q l. go q l (eqb q j) refl }
    where
      go : (q : ℕ) → q < j + 1 → (t : Bool) → eqb q j ≡ t → Apart w q q
      go q l true x = let z : q ≡ j = eqb-true q j x in rw z (g.apart h)
      go q l false x = a.are q (omega (arith, eqb-false q j x))

  pub all_twice : {j n : ℕ} {r : Bool} → j < n → Again w j r → r ≡ true → false ≡ distinct (listed n w [])
  all_twice {j} {n} l g h = rw (g.found h n l)

  pub all_end : {j n : ℕ} → AllApart w j → n ≤ j → true ≡ distinct (listed n w [])
  unfolding distinct is_one_of
  all_end {j} {n} a l = rw (all_apart w n [] (λ p q k m. (a.are q (omega arith)).are p k) (λ p m. refl) refl)

-- two of the first n words, in any order
pub alike : (w : ℕ → List ℕ) {n p q k : ℕ} → p < n → q < n → (p ≡ q → ⊥) → k ≡ order (w p) (w q) → k ≡ 0 → distinct (listed n w []) ≡ false
alike w {n} {p} {q} {k} l m h e z = go (ltb p q) refl (order_same (w p) (w q) (rw (← e) z))
  where
    go : (t : Bool) → ltb p q ≡ t → same (w p) (w q) ≡ true → distinct (listed n w []) ≡ false
    go true x y = pair_again w n p q [] (ltb-true p q x) m y
    go false x y = pair_again w n q p [] (omega (arith, ltb-false p q x, h)) l (rw (same_either (w q) (w p)) y)

pub ruleset pairwise = (apart_start, apart_more, again_found, again_none, all_start, all_more, all_twice, all_end, rules)
