-- Laws of what specs/Rising.antt defines.
--     rising_distinct    numbers whose words rise, and that leave none out
use Rattle.std.specs.Prelude.{◌≡◌, Bool, true, false, ℕ, zero, suc, ◌+◌, ◌-◌, ◌≤◌, ◌<◌, eqb, ltb, get_or}
use Rattle.std.proofs.Math.Path.{refl}
use Rattle.std.proofs.Common.{sym, ap, ◌∙◌, arith, eqb-true, ltb-true, ltb-false}
use mathlib.Core.List.{List, []}
use Rattle.std.proofs.lemmas.Bool.{eqb-false}
use Rattle.octets.specs.Words.{same, is_one_of}
use Rattle.octets.specs.laws.Words.{same_swap}
use Rattle.octets.specs.Lists.{distinct}
use Rattle.distinct.specs.Listed.{listed}
use Rattle.distinct.specs.laws.Listed.{all_apart}
use Rattle.distinct.specs.Order.{order}
use Rattle.distinct.specs.laws.Order.{order_through, order_apart}
use Rattle.distinct.specs.Rising.{Rising, Ranked}

-- ---- the loops that check them

module _ {w : ℕ → List ℕ} {o : List ℕ} where
  pub rising_start : Rising w o 1
  rising_start = record { next = λ i l. absurd (omega arith) }

  pub rising_more : (i : ℕ) {k p q : ℕ} → Rising w o (i + 1) → p ≡ get_or o i 0 → q ≡ get_or o (i + 1) 0 → k ≡ order (w p) (w q) → k ≡ 1 → Rising w o (i + 1 + 1)
  rising_more i {k} {p} {q} r a b e h = record { next = λ j l. go j l (eqb j i) refl }
    where
      go : (j : ℕ) → j + 1 < i + 1 + 1 → (t : Bool) → eqb j i ≡ t → order (w (get_or o j 0)) (w (get_or o (j + 1) 0)) ≡ 1
      go j l true x = let z : j ≡ i = eqb-true j i x in rw (z, ← a, ← b, ← e) h
      go j l false x = r.next j (omega (arith, eqb-false j i x))

  pub rising_fewer : {m n : ℕ} → Rising w o m → n ≤ m → Rising w o n
  rising_fewer r h = record { next = λ i l. r.next i (omega arith) }

module _ {o k : List ℕ} {n : ℕ} where
  pub ranked_start : Ranked o k 0 n
  ranked_start = record { below = λ p l. absurd (omega arith); there = λ p l. absurd (omega arith) }

  pub ranked_more : {p q r : ℕ} → Ranked o k p n → r ≡ get_or k p 0 → r < n → q ≡ get_or o r 0 → q ≡ p → Ranked o k (p + 1) n
  ranked_more {p} {q} {r} a e l f h = record { below = λ j m. less j m (eqb j p) refl; there = λ j m. found j m (eqb j p) refl }
    where
      less : (j : ℕ) → j < p + 1 → (t : Bool) → eqb j p ≡ t → get_or k j 0 < n
      less j m true x = let z : j ≡ p = eqb-true j p x in rw (z, ← e) l
      less j m false x = a.below j (omega (arith, eqb-false j p x))

      found : (j : ℕ) → j < p + 1 → (t : Bool) → eqb j p ≡ t → get_or o (get_or k j 0) 0 ≡ j
      found j m true x = let z : j ≡ p = eqb-true j p x in rw (z, ← e, ← f) h
      found j m false x = a.there j (omega (arith, eqb-false j p x))

  pub ranked_end : {p : ℕ} → Ranked o k p n → n ≤ p → Ranked o k n n
  ranked_end a h = record { below = λ j l. a.below j (omega arith); there = λ j l. a.there j (omega arith) }

-- ---- what they show

module _ {w : ℕ → List ℕ} {o : List ℕ} {n : ℕ} (r : Rising w o n) where
  further : (d i : ℕ) → i + 1 + d < n → order (w (get_or o i 0)) (w (get_or o (i + 1 + d) 0)) ≡ 1
  further zero i h = let z : i + 1 + 0 ≡ i + 1 = omega arith in rw z (r.next i (omega arith))
  further (suc d) i h =
      let z : i + 1 + suc d ≡ i + 1 + d + 1 = omega arith in
      rw z (order_through (w (get_or o i 0)) (w (get_or o (i + 1 + d) 0)) (w (get_or o (i + 1 + d + 1) 0)) (further d i (omega arith)) (r.next (i + 1 + d) (omega arith)))

  rising_apart : (i j : ℕ) → i < j → j < n → same (w (get_or o i 0)) (w (get_or o j 0)) ≡ false
  rising_apart i j l h =
      let z : j ≡ i + 1 + (j - i - 1) = omega arith in
      order_apart _ _ 1 (rw z (further (j - i - 1) i (omega arith))) (λ e. omega arith)

  module _ {k : List ℕ} (a : Ranked o k n n) where
    ranked_apart : (p q : ℕ) → p < q → q < n → same (w p) (w q) ≡ false
    ranked_apart p q l h =
        let m : p < n = omega arith in
        let e : get_or o (get_or k p 0) 0 ≡ p = a.there p m in
        let f : get_or o (get_or k q 0) 0 ≡ q = a.there q h in
        go e f (ltb (get_or k p 0) (get_or k q 0)) refl (ltb (get_or k q 0) (get_or k p 0)) refl
      where
        go : get_or o (get_or k p 0) 0 ≡ p → get_or o (get_or k q 0) 0 ≡ q → (x : Bool) → ltb (get_or k p 0) (get_or k q 0) ≡ x → (y : Bool) → ltb (get_or k q 0) (get_or k p 0) ≡ y → same (w p) (w q) ≡ false
        go e f true x y z = rw (e, f) at (rising_apart (get_or k p 0) (get_or k q 0) (ltb-true _ _ x) (a.below q h))
        go e f false x true z = same_swap (w q) (w p) (rw (e, f) at (rising_apart (get_or k q 0) (get_or k p 0) (ltb-true _ _ z) (a.below p (omega arith))))
        go e f false x false z =
            let i : get_or k p 0 ≡ get_or k q 0 = omega (arith, ltb-false (get_or k p 0) (get_or k q 0) x, ltb-false (get_or k q 0) (get_or k p 0) z) in
            let j : p ≡ q = sym e ∙ ap (λ (u : ℕ). get_or o u 0) i ∙ f in
            absurd (omega arith)

    pub rising_distinct : distinct (listed n w []) ≡ true
    unfolding distinct is_one_of
    rising_distinct = all_apart w n [] ranked_apart (λ p l. refl) refl
