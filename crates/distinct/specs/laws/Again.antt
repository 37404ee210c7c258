-- Laws of what specs/Again.antt defines: it is found by the shortest part from the first word on that is not distinct.
--     again_none, again_found    where all words are different;   where the first m are, and the first m + 1 are not
--     Between                    the invariant of halving
use Rattle.std.specs.Prelude.{◌≡◌, Bool}
use Rattle.std.proofs.Math.Path.{refl, sym, ap}
use Rattle.std.proofs.Common.{◌∙◌, zero-add, suc-add}
use Rattle.std.proofs.Math.Bool.{true, false}
use Rattle.std.proofs.lemmas.Bool.{false≢true}
use mathlib.Core.List.{List, [], ◌∷◌}
use Prim.Native.Nat.{ℕ, zero, suc, ◌+◌, ◌-◌, ◌<◌, ◌≤◌}
use native.Mathlib.Omega.{arith}
use Rattle.std.proofs.Math.Numerals.{add-one}
use Rattle.std.proofs.Math.Dec.{eqb}
use borrow.Author.Tests.{eqb-true, eqb-false}
use Rattle.octets.specs.Pick.{pick, ◌or◌}
use Rattle.octets.specs.laws.Pick.{or_cases, or_neither}
use Rattle.octets.specs.Words.{same, is_one_of}
use Rattle.octets.specs.laws.Words.{same_either}
use Rattle.octets.specs.Lists.{distinct}
use Rattle.distinct.specs.Listed.{listed}
use Rattle.distinct.specs.laws.Listed.{pair_again, all_apart}
use Rattle.distinct.specs.Again.{first_again}

module _ (w : ℕ → List ℕ) where
  -- the first n words, the last of them first
  unfoldable back : ℕ → List (List ℕ)
  back zero = []
  back (suc n) = w n ∷ back n

  -- ---- one of the first n words

  back_one : (n : ℕ) (v : List ℕ) → is_one_of v (back n) ≡ true → (p : ℕ) × (p < n) × (same v (w p) ≡ true)
  unfolding back is_one_of
  back_one zero v h = absurd (false≢true h)
  back_one (suc n) v h = or_cases (same v (w n)) (is_one_of v (back n)) h (λ k. (n, omega arith, k)) (λ k. let e = back_one n v k in (e.0, omega (arith, e.1), e.2))

  back_none : (n : ℕ) (v : List ℕ) → is_one_of v (back n) ≡ false → (p : ℕ) → p < n → same v (w p) ≡ false
  unfolding back is_one_of
  back_none zero v h p l = absurd (omega arith)
  back_none (suc n) v h p l = let e = or_neither (same v (w n)) (is_one_of v (back n)) h in go (eqb p n) refl e.0 (back_none n v e.1 p)
    where
      go : (t : Bool) → eqb p n ≡ t → same v (w n) ≡ false → (p < n → same v (w p) ≡ false) → same v (w p) ≡ false
      go true x d ih = rw (eqb-true p n x) d
      go false x d ih = ih (omega (arith, eqb-false p n x))

  -- ---- the first n words are different

  abbrev Apart : ℕ → Type 0
  Apart n = distinct (listed n w []) ≡ true

  pairs : (n : ℕ) → Apart n → (p q : ℕ) → p < q → q < n → same (w p) (w q) ≡ false
  pairs n d p q k l = go (same (w p) (w q)) refl
    where
      go : (t : Bool) → same (w p) (w q) ≡ t → t ≡ false
      go true e = absurd (false≢true (sym (pair_again w n p q [] k l e) ∙ d))
      go false e = refl

  fewer : (n : ℕ) → Apart (suc n) → Apart n
  unfolding distinct is_one_of
  fewer n d = all_apart w n [] (λ p q k l. pairs (suc n) d p q k (omega arith)) (λ p l. refl) refl

  -- one word more: it is none of them, or comes again
  next_fresh : (n : ℕ) → Apart (suc n) → is_one_of (w n) (back n) ≡ false
  next_fresh n d = go (is_one_of (w n) (back n)) refl
    where
      go : (t : Bool) → is_one_of (w n) (back n) ≡ t → t ≡ false
      go true e = let x = back_one n (w n) e in absurd (false≢true (sym (pairs (suc n) d x.0 n x.1 (omega arith)) ∙ (rw (same_either (w x.0) (w n)) x.2)))
      go false e = refl

  next_again : (n : ℕ) → Apart n → distinct (listed (suc n) w []) ≡ false → is_one_of (w n) (back n) ≡ true
  unfolding distinct is_one_of
  next_again n d h = go (is_one_of (w n) (back n)) refl
    where
      last : is_one_of (w n) (back n) ≡ false → (p q : ℕ) → p < q → q < suc n → (t : Bool) → eqb q n ≡ t → same (w p) (w q) ≡ false
      last e p q k l true x = let z : q ≡ n = eqb-true q n x in rw (z, same_either (w p) (w n)) (back_none n (w n) e p (omega arith))
      last e p q k l false x = pairs n d p q k (omega (arith, eqb-false q n x))

      go : (t : Bool) → is_one_of (w n) (back n) ≡ t → t ≡ true
      go true e = refl
      go false e = absurd (false≢true (sym h ∙ all_apart w (suc n) [] (λ p q k l. last e p q k l (eqb q n) refl) (λ p l. refl) refl))

  -- ---- the first that comes again is not one of words that are different

  again_behind : (n : ℕ) (more : List (List ℕ)) → Apart n → first_again [] (listed n w more) ≡ n + first_again (back n) more
  unfolding listed first_again back pick
  again_behind zero more d = omega arith
  again_behind (suc n) more d = again_behind n (w n ∷ more) (fewer n d) ∙ rw (next_fresh n d) (omega arith)

  pub again_none : (n : ℕ) → distinct (listed n w []) ≡ true → n ≡ first_again [] (listed n w [])
  unfolding first_again
  again_none n d = sym (again_behind n [] d ∙ omega arith)

  -- words behind the first m
  behind : (d m : ℕ) (more : List (List ℕ)) → (l : List (List ℕ)) × (listed (d + m) w more ≡ listed m w l)
  unfolding listed
  behind zero m more = (more, ap (λ (i : ℕ). listed i w more) (zero-add m))
  behind (suc d) m more = let b = behind d m (w (d + m) ∷ more) in (b.0, ap (λ (i : ℕ). listed i w more) (suc-add d m) ∙ b.1)

  pub again_found : (n m : ℕ) → m < n → distinct (listed m w []) ≡ true → distinct (listed (m + 1) w []) ≡ false → m ≡ first_again [] (listed n w [])
  unfolding first_again listed pick
  again_found n m l d h =
      let k : n ≡ n - suc m + suc m = omega arith in
      let b = behind (n - suc m) (suc m) [] in
      let e : first_again [] (listed n w []) ≡ m + first_again (back m) (w m ∷ b.0) = ap (λ (i : ℕ). first_again [] (listed i w [])) k ∙ ap (first_again []) b.1 ∙ again_behind m (w m ∷ b.0) d in
      let i : is_one_of (w m) (back m) ≡ true = next_again m d (rw add-one at h) in
      sym (e ∙ rw i (omega arith))

-- ---- halving: the first `low` words are different, the first `high` are not

pub record Between (w : ℕ → List ℕ) (n low high : ℕ) : Type 0 where
  pub apart : distinct (listed low w []) ≡ true
  pub again : distinct (listed high w []) ≡ false
  pub least : low < high
  pub most : high ≤ n

module _ (w : ℕ → List ℕ) {n : ℕ} where
  zero_apart : distinct (listed n w []) ≡ false → 0 < n
  unfolding listed distinct
  zero_apart h = go n h
    where
      go : (k : ℕ) → distinct (listed k w []) ≡ false → 0 < k
      go zero e = absurd (false≢true (sym e))
      go (suc k) e = omega arith

  pub half_start : {r : Bool} → r ≡ distinct (listed n w []) → r ≡ false → Between w n 0 n
  unfolding listed distinct
  half_start e h = record { apart = refl; again = sym e ∙ h; least = zero_apart (sym e ∙ h); most = omega arith }

  pub half_all : {r : Bool} → r ≡ distinct (listed n w []) → r ≡ true → n ≡ first_again [] (listed n w [])
  half_all e h = again_none w n (sym e ∙ h)

module _ {w : ℕ → List ℕ} {n low high : ℕ} (b : Between w n low high) where
  pub half_lower : {r : Bool} (m : ℕ) → low < m → m < high → r ≡ distinct (listed m w []) → r ≡ true → Between w n m high
  half_lower m k l e h = record { apart = sym e ∙ h; again = b.again; least = l; most = b.most }

  pub half_upper : {r : Bool} (m : ℕ) → low < m → m < high → r ≡ distinct (listed m w []) → r ≡ false → Between w n low m
  half_upper m k l e h = record { apart = b.apart; again = sym e ∙ h; least = k; most = omega (arith, b.most) }

  pub half_end : high ≤ low + 1 → low ≡ first_again [] (listed n w [])
  half_end h =
      let e : high ≡ low + 1 = omega (arith, b.least) in
      again_found w n low (omega (arith, b.least, b.most)) b.apart (rw e at b.again)
