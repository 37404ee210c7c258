-- Laws of what specs/Order.antt defines.
--     order_through        it is transitive
--     order_same, order_apart    what it says of `same`
--     order_less, order_more, order_end, order_on    two words, by the units at their cursors
use Rattle.std.specs.Prelude.{◌≡◌, refl, Bool, true, false, List, [], ◌∷◌, ℕ, ◌-◌, ◌*◌, ◌≤◌, ◌<◌, eqb, ltb, length}
use Rattle.std.proofs.Math.Path.{sym}
use Rattle.std.proofs.Common.{◌∙◌, arith}
use borrow.Author.Tests.{eq-eqb, ne_eqb, eqb-true, eqb-false, lt-ltb, le-ltb, ltb-true, ltb-false}
use Rattle.octets.specs.Pick.{pick, ◌and◌}
use Rattle.octets.specs.laws.Pick.{pick_either}
use Rattle.octets.specs.Class.{upper_byte, upper}
use Rattle.octets.specs.Words.{same}
use Rattle.octets.specs.laws.Words.{same_true}
use Rattle.source.specs.Source.{rest, spell, Reads}
use Rattle.source.specs.laws.Facts.{byte_small}
use Rattle.source.specs.declared.points.Unit.{Unit}
use Rattle.distinct.specs.Order.{order}

pub order_self : (s : List ℕ) → order s s ≡ 0
unfolding order pick
order_self [] = refl
order_self (x ∷ s) = rw (le-ltb x x (omega arith)) (order_self s)

-- what a first byte tells
first_zero : (x y : ℕ) (k : ℕ) → pick (ltb x y) 1 (pick (ltb y x) 2 k) ≡ 0 → (x ≡ y) × (k ≡ 0)
unfolding pick
first_zero x y k h = go (ltb x y) refl (ltb y x) refl h
  where
    go : (a : Bool) → ltb x y ≡ a → (b : Bool) → ltb y x ≡ b → pick a 1 (pick b 2 k) ≡ 0 → (x ≡ y) × (k ≡ 0)
    go true e b f h = absurd (omega arith)
    go false e true f h = absurd (omega arith)
    go false e false f h = (omega (arith, ltb-false x y e, ltb-false y x f), h)

pub order_same : (s t : List ℕ) → order s t ≡ 0 → same s t ≡ true
unfolding order same ◌and◌
order_same [] [] h = refl
order_same [] (y ∷ t) h = absurd (omega arith)
order_same (x ∷ s) [] h = absurd (omega arith)
order_same (x ∷ s) (y ∷ t) h = let e = first_zero x y (order s t) h in rw (eq-eqb x y e.0) (order_same s t e.1)

pub order_apart : (s t : List ℕ) (k : ℕ) → order s t ≡ k → (k ≡ 0 → ⊥) → same s t ≡ false
order_apart s t k h n = go (same s t) refl
  where
    go : (b : Bool) → same s t ≡ b → b ≡ false
    go true e = absurd (n (sym h ∙ rw (same_true s t e) (order_self t)))
    go false e = refl

-- 1 by the first byte, or by the others
first_one : (x y : ℕ) (k : ℕ) → pick (ltb x y) 1 (pick (ltb y x) 2 k) ≡ 1 → (x ≤ y) × ((y ≤ x) → k ≡ 1)
unfolding pick
first_one x y k h = go (ltb x y) refl (ltb y x) refl h
  where
    go : (a : Bool) → ltb x y ≡ a → (b : Bool) → ltb y x ≡ b → pick a 1 (pick b 2 k) ≡ 1 → (x ≤ y) × ((y ≤ x) → k ≡ 1)
    go true e b f h = (omega (arith, ltb-true x y e), λ l. absurd (omega (arith, ltb-true x y e)))
    go false e true f h = absurd (omega arith)
    go false e false f h = (omega (arith, ltb-false x y e, ltb-false y x f), λ l. h)

one_first : (x y : ℕ) (k : ℕ) → x ≤ y → ((y ≤ x) → k ≡ 1) → pick (ltb x y) 1 (pick (ltb y x) 2 k) ≡ 1
unfolding pick
one_first x y k l h = go (ltb x y) refl
  where
    go : (a : Bool) → ltb x y ≡ a → pick a 1 (pick (ltb y x) 2 k) ≡ 1
    go true e = refl
    go false e = rw (le-ltb y x l) (h (omega (arith, ltb-false x y e)))

pub order_through : (s t u : List ℕ) → order s t ≡ 1 → order t u ≡ 1 → order s u ≡ 1
unfolding order
order_through [] [] u h k = absurd (omega arith)
order_through [] (y ∷ t) u h k = absurd (omega arith)
order_through (x ∷ s) [] [] h k = refl
order_through (x ∷ s) (y ∷ t) [] h k = refl
order_through (x ∷ s) [] (z ∷ u) h k = absurd (omega arith)
order_through (x ∷ s) (y ∷ t) (z ∷ u) h k =
    let a = first_one x y (order s t) h in
    let b = first_one y z (order t u) k in
    one_first x z (order s u) (omega arith) (λ l. order_through s t u (a.1 (omega arith)) (b.1 (omega arith)))

-- ---- two words, by the units at their cursors

-- 256, the sign of the end, is no letter; a byte stays a byte
upper_end : (u : ℕ) → u ≡ 256 → upper_byte u ≡ 256
unfolding pick ◌and◌
upper_end u h = rw h

upper_small : (u : ℕ) → u < 256 → upper_byte u < 256
upper_small u h = pick_either (λ (k : ℕ). k < 256) _ (u - 32) u (omega arith) h

order-spell : (u v : ℕ) (r q : List ℕ) → u ≤ 256 → v ≤ 256 →
    order (upper (spell u r)) (upper (spell v q)) ≡ pick (ltb (upper_byte u) (upper_byte v)) 1 (pick (ltb (upper_byte v) (upper_byte u)) 2 (pick (eqb u 256) 0 (order (upper r) (upper q))))
unfolding order upper spell pick
order-spell u v r q h k = go (eqb u 256) refl (eqb v 256) refl
  where
    go : (a : Bool) → eqb u 256 ≡ a → (b : Bool) → eqb v 256 ≡ b →
        order (upper (pick a [] (u ∷ r))) (upper (pick b [] (v ∷ q))) ≡ pick (ltb (upper_byte u) (upper_byte v)) 1 (pick (ltb (upper_byte v) (upper_byte u)) 2 (pick a 0 (order (upper r) (upper q))))
    go true e true f = let i = upper_end u (eqb-true u 256 e) in let j = upper_end v (eqb-true v 256 f) in rw (le-ltb (upper_byte u) (upper_byte v) (omega arith), le-ltb (upper_byte v) (upper_byte u) (omega arith))
    go true e false f =
        let i = upper_end u (eqb-true u 256 e) in
        let l : upper_byte v < 256 = upper_small v (omega (arith, eqb-false v 256 f)) in
        rw (le-ltb (upper_byte u) (upper_byte v) (omega arith), lt-ltb (upper_byte v) (upper_byte u) (omega arith))
    go false e true f =
        let j = upper_end v (eqb-true v 256 f) in
        let l : upper_byte u < 256 = upper_small u (omega (arith, eqb-false u 256 e)) in
        rw (lt-ltb (upper_byte u) (upper_byte v) (omega arith))
    go false e false f = refl

module _ {m : ℕ} {s t : List ℕ} {c d : ℕ} {x y : Unit} (p : Reads m s c x) (q : Reads m t d y) {a b : ℕ} (e : a ≡ upper_byte x.u) (f : b ≡ upper_byte y.u) where
  by_units : order (upper (rest m s c)) (upper (rest m t d)) ≡ pick (ltb a b) 1 (pick (ltb b a) 2 (pick (eqb x.u 256) 0 (order (upper (rest m s x.next)) (upper (rest m t y.next)))))
  by_units = rw (e, f, p.is, q.is) (order-spell x.u y.u (rest m s x.next) (rest m t y.next) p.small q.small)

  pub order_less : a < b → 1 ≡ order (upper (rest m s c)) (upper (rest m t d))
  unfolding pick
  order_less h = sym (by_units ∙ rw (lt-ltb a b h))

  pub order_more : b ≤ a → b < a → 2 ≡ order (upper (rest m s c)) (upper (rest m t d))
  unfolding pick
  order_more l h = sym (by_units ∙ rw (le-ltb a b l, lt-ltb b a h))

  pub order_end : b ≤ a → a ≤ b → x.u ≡ 256 → 0 ≡ order (upper (rest m s c)) (upper (rest m t d))
  unfolding pick
  order_end l m h = sym (by_units ∙ rw (le-ltb a b l, le-ltb b a m, eq-eqb x.u 256 h))

  pub order_on : b ≤ a → a ≤ b → (x.u ≡ 256 → ⊥) → order (upper (rest m s c)) (upper (rest m t d)) ≡ order (upper (rest m s x.next)) (upper (rest m t y.next))
  unfolding pick
  order_on l m h = by_units ∙ rw (le-ltb a b l, le-ltb b a m, ne_eqb x.u 256 h)

pub order_nearer : {m : ℕ} {s : List ℕ} {c : ℕ} {x : Unit} → Reads m s c x → (x.u ≡ 256 → ⊥) → 4 * length s - x.next < 4 * length s - c
order_nearer p h = let u = byte_small p h in omega arith
