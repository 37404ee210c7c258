-- Laws of what specs/Listed.antt defines.
--     word_cut               the word, as code cuts it out
--     listed_next            one word more;   listed_same: two lists of the same words
--     pair_again             a list that has a word twice is not distinct
--     all_apart              a list whose words are pairwise different is distinct
use Rattle.std.specs.Prelude.{◌≡◌, Bool, List, ◌∷◌, length, get_or, take}
use Rattle.std.proofs.Math.Path.{refl}
use Rattle.std.proofs.Math.Bool.{true, false}
use Prim.Native.Nat.{ℕ, zero, suc, ◌+◌, ◌<◌, min}
use Rattle.std.proofs.Common.{add-one, arith}
use Rattle.std.proofs.Math.Dec.{eqb}
use borrow.Author.Tests.{eqb-true, eqb-false}
use Rattle.octets.specs.Pick.{pick}
use Rattle.octets.specs.laws.Pick.{or_left, or_right, or_no}
use Rattle.octets.specs.Class.{upper}
use Rattle.octets.specs.laws.Scan.{take_least}
use Rattle.octets.specs.Words.{same, is_one_of}
use Rattle.octets.specs.Lists.{distinct}
use Rattle.source.specs.Source.{rest}
use Rattle.distinct.specs.Listed.{word_at, listed}

-- the word, as code cuts it out
pub word_cut : {x e a : ℕ} (m : ℕ) (s from to : List ℕ) (i : ℕ) → e ≡ get_or to i 0 → x ≡ min e (length s) → a ≡ get_or from i 0 → upper (rest m (take x s) a) ≡ word_at m s from to i
unfolding word_at
word_cut {x} {e} {a} m s from to i h k l = let z : take x s ≡ take e s = rw k (take_least s e) in rw (z, h, l)

pub listed_next : (n : ℕ) (w : ℕ → List ℕ) (more : List (List ℕ)) → listed (n + 1) w more ≡ listed n w (w n ∷ more)
unfolding listed
listed_next n w more = rw add-one

pub listed_same : (n : ℕ) (v w : ℕ → List ℕ) (more : List (List ℕ)) → ((i : ℕ) → i < n → v i ≡ w i) → listed n v more ≡ listed n w more
unfolding listed
listed_same zero v w more h = refl
listed_same (suc n) v w more h = rw (h n (omega arith)) (listed_same n v w (w n ∷ more) (λ i l. h i (omega arith)))

module _ (w : ℕ → List ℕ) where
  -- words in front of a list that is not distinct
  again_behind : (n : ℕ) (more : List (List ℕ)) → distinct more ≡ false → distinct (listed n w more) ≡ false
  unfolding listed distinct pick
  again_behind zero more h = h
  again_behind (suc n) more h = again_behind n (w n ∷ more) (go (is_one_of (w n) more))
    where
      go : (t : Bool) → pick t false (distinct more) ≡ false
      go true = refl
      go false = h

  -- one of the words is among those behind
  one_again : (n p : ℕ) (more : List (List ℕ)) → p < n → is_one_of (w p) more ≡ true → distinct (listed n w more) ≡ false
  unfolding listed distinct is_one_of pick
  one_again zero p more l h = absurd (omega arith)
  one_again (suc n) p more l h = go (eqb p n) refl (λ m. one_again n p (w n ∷ more) m (or_right (same (w p) (w n)) (is_one_of (w p) more) h))
    where
      go : (t : Bool) → eqb p n ≡ t → (p < n → distinct (listed n w (w n ∷ more)) ≡ false) → distinct (listed n w (w n ∷ more)) ≡ false
      go true e ih = let q : p ≡ n = eqb-true p n e in again_behind n (w n ∷ more) (rw (← q, h))
      go false e ih = ih (omega (arith, eqb-false p n e))

  pub pair_again : (n p q : ℕ) (more : List (List ℕ)) → p < q → q < n → same (w p) (w q) ≡ true → distinct (listed n w more) ≡ false
  unfolding listed is_one_of
  pair_again zero p q more k l h = absurd (omega arith)
  pair_again (suc n) p q more k l h = go (eqb q n) refl (λ m. pair_again n p q (w n ∷ more) k m h)
    where
      go : (t : Bool) → eqb q n ≡ t → (q < n → distinct (listed n w (w n ∷ more)) ≡ false) → distinct (listed n w (w n ∷ more)) ≡ false
      go true e ih = let z : q ≡ n = eqb-true q n e in one_again n p (w n ∷ more) (omega arith) (or_left (same (w p) (w n)) (is_one_of (w p) more) (rw (← z) h))
      go false e ih = ih (omega (arith, eqb-false q n e))

  pub all_apart : (n : ℕ) (more : List (List ℕ)) → ((p q : ℕ) → p < q → q < n → same (w p) (w q) ≡ false) → ((p : ℕ) → p < n → is_one_of (w p) more ≡ false) →
      distinct more ≡ true → distinct (listed n w more) ≡ true
  unfolding listed distinct is_one_of pick
  all_apart zero more a b d = d
  all_apart (suc n) more a b d =
      all_apart n (w n ∷ more) (λ p q k l. a p q k (omega arith)) (λ p l. or_no (same (w p) (w n)) (is_one_of (w p) more) (a p n l (omega arith)) (b p (omega arith))) (rw (b n (omega arith)) d)
