-- Laws of two strings compared, by the units at their cursors: what crate distinct says of words in capitals, of characters as they stand.
--     order_less, order_more, order_end, order_on    the answers, and what follows equal units;   order_nearer: a step is one
use Rattle.std.specs.Prelude.{◌≡◌, refl, Bool, true, false, List, [], ◌∷◌, ℕ, ◌-◌, ◌*◌, ◌≤◌, ◌<◌, eqb, ltb, length}
use Rattle.std.proofs.Math.Path.{sym}
use Rattle.std.proofs.Common.{◌∙◌, arith}
use borrow.Author.Tests.{eq-eqb, ne_eqb, eqb-true, eqb-false, lt-ltb, le-ltb}
use Rattle.octets.specs.Pick.{pick}
use Rattle.source.specs.Source.{rest, spell, Reads}
use Rattle.source.specs.laws.Facts.{byte_small}
use Rattle.source.specs.declared.points.Unit.{Unit}
use Rattle.distinct.specs.Order.{order}

order-spell : (u v : ℕ) (r q : List ℕ) → u ≤ 256 → v ≤ 256 → order (spell u r) (spell v q) ≡ pick (ltb u v) 1 (pick (ltb v u) 2 (pick (eqb u 256) 0 (order r q)))
unfolding order spell pick
order-spell u v r q h k = go (eqb u 256) refl (eqb v 256) refl
  where
    go : (a : Bool) → eqb u 256 ≡ a → (b : Bool) → eqb v 256 ≡ b → order (pick a [] (u ∷ r)) (pick b [] (v ∷ q)) ≡ pick (ltb u v) 1 (pick (ltb v u) 2 (pick a 0 (order r q)))
    go true e true f = let i = eqb-true u 256 e in let j = eqb-true v 256 f in rw (le-ltb u v (omega arith), le-ltb v u (omega arith))
    go true e false f = let i = eqb-true u 256 e in let j = eqb-false v 256 f in rw (le-ltb u v (omega arith), lt-ltb v u (omega arith))
    go false e true f = let i = eqb-false u 256 e in let j = eqb-true v 256 f in rw (lt-ltb u v (omega arith))
    go false e false f = refl

module _ {s : List ℕ} {c d : ℕ} {x y : Unit} (p : Reads 3 s c x) (q : Reads 3 s d y) where
  by_units : order (rest 3 s c) (rest 3 s d) ≡ pick (ltb x.u y.u) 1 (pick (ltb y.u x.u) 2 (pick (eqb x.u 256) 0 (order (rest 3 s x.next) (rest 3 s y.next))))
  by_units = rw (p.is, q.is) (order-spell x.u y.u (rest 3 s x.next) (rest 3 s y.next) p.small q.small)

  pub order_less : x.u < y.u → 1 ≡ order (rest 3 s c) (rest 3 s d)
  unfolding pick
  order_less h = sym (by_units ∙ rw (lt-ltb x.u y.u h))

  pub order_more : y.u ≤ x.u → y.u < x.u → 2 ≡ order (rest 3 s c) (rest 3 s d)
  unfolding pick
  order_more l h = sym (by_units ∙ rw (le-ltb x.u y.u l, lt-ltb y.u x.u h))

  pub order_end : y.u ≤ x.u → x.u ≤ y.u → x.u ≡ 256 → 0 ≡ order (rest 3 s c) (rest 3 s d)
  unfolding pick
  order_end l m h = sym (by_units ∙ rw (le-ltb x.u y.u l, le-ltb y.u x.u m, eq-eqb x.u 256 h))

  pub order_on : y.u ≤ x.u → x.u ≤ y.u → (x.u ≡ 256 → ⊥) → order (rest 3 s c) (rest 3 s d) ≡ order (rest 3 s x.next) (rest 3 s y.next)
  unfolding pick
  order_on l m h = by_units ∙ rw (le-ltb x.u y.u l, le-ltb y.u x.u m, ne_eqb x.u 256 h)

pub order_nearer : {s : List ℕ} {c : ℕ} {x : Unit} → Reads 3 s c x → (x.u ≡ 256 → ⊥) → 4 * length s - x.next < 4 * length s - c
order_nearer p h = let u = byte_small p h in omega (arith, p.moved, p.inside)
