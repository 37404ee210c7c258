-- Laws of what specs/Items.antt defines.
--     items-got, items-none, items_bad    a turn of it
--     many-items      where there is no fault these are all that `many` reads
use Prim.Native.Nat.{ℕ, zero, suc, ◌<◌}
use mathlib.Core.List.{List, [], ◌∷◌}
use Rattle.std.specs.Prelude.{Bool}
use Rattle.std.proofs.Math.Bool.{true, false, cond}
use Rattle.std.proofs.Math.Path.{◌≡◌, refl, ap}
use Rattle.std.proofs.Common.{◌∙◌, arith}
use Rattle.std.proofs.Math.Dec.{ltb}
use Rattle.std.proofs.Math.ListN.{length}
use borrow.Author.Tests.{lt-ltb, ltb-true}
use Rattle.octets.specs.Many.{One, got, bad, All, ok, no, cons, many, many_in, many_by}
use Rattle.read_text_line.specs.Items.{items_by, items_in, items}

module _ {A : Type 0} where
  items_fuel : (p : List ℕ → One A) (k j : ℕ) (xs : List ℕ) → length xs < k → length xs < j → items_in k p xs ≡ items_in j p xs
  unfolding items_in items_by
  items_fuel p zero j xs h q = absurd (omega arith)
  items_fuel p (suc k) zero xs h q = absurd (omega arith)
  items_fuel p (suc k) (suc j) xs h q = go (p xs) (λ r l. items_fuel p k j r (omega arith) (omega arith))
    where
      go : (o : One A) → ((r : List ℕ) → length r < length xs → items_in k p r ≡ items_in j p r) → items_by o (items_in k p) xs ≡ items_by o (items_in j p) xs
      go (got a r) ih = both (ltb (length r) (length xs)) refl
        where
          both : (b : Bool) → ltb (length r) (length xs) ≡ b → cond b (a ∷ items_in k p r) [] ≡ cond b (a ∷ items_in j p r) []
          both true e = ap (λ (l : List A). a ∷ l) (ih r (ltb-true _ _ e))
          both false e = refl
      go One.none ih = refl
      go (bad r) ih = refl

  pub items-got : (p : List ℕ → One A) (xs : List ℕ) (a : A) (r : List ℕ) → p xs ≡ got a r → length r < length xs → items p xs ≡ a ∷ items p r
  unfolding items items_in items_by
  items-got p xs a r e h = rw (e, lt-ltb _ _ h) (ap (λ (l : List A). a ∷ l) (items_fuel p (length xs) (suc (length r)) r h (omega arith)))

  pub items-none : (p : List ℕ → One A) (xs : List ℕ) → p xs ≡ One.none → items p xs ≡ []
  unfolding items items_in items_by
  items-none p xs e = rw e

  pub items_bad : (p : List ℕ → One A) (xs r : List ℕ) → p xs ≡ bad r → items p xs ≡ []
  unfolding items items_in items_by
  items_bad p xs r e = rw e

  in_items : (p : List ℕ → One A) (k : ℕ) (xs : List ℕ) (l : List A) (r : List ℕ) → many_in k p xs ≡ ok l r → items_in k p xs ≡ l
  unfolding many_in many_by items_in items_by
  in_items p zero xs l r e = let z : ◌≡◌ {A = ℕ} 0 1 = cc in absurd (omega arith)
  in_items p (suc k) xs l r e = go (p xs) e (in_items p k)
    where
      go : (o : One A) → many_by o (many_in k p) xs ≡ ok l r → ((t : List ℕ) (m : List A) (u : List ℕ) → many_in k p t ≡ ok m u → items_in k p t ≡ m) → items_by o (items_in k p) xs ≡ l
      go (got a t) e ih = both (ltb (length t) (length xs)) (many_in k p t) refl e
        where
          both : (b : Bool) (o : All A) → many_in k p t ≡ o → cond b (cons a o) (no xs) ≡ ok l r → cond b (a ∷ items_in k p t) [] ≡ l
          both true (ok m u) i e = let x : a ∷ m ≡ l = cc in ap (λ (y : List A). a ∷ y) (ih t m u i) ∙ x
          both true (no u) i e = let z : ◌≡◌ {A = ℕ} 0 1 = cc in absurd (omega arith)
          both false o i e = let z : ◌≡◌ {A = ℕ} 0 1 = cc in absurd (omega arith)
      go One.none e ih = cc
      go (bad t) e ih = let z : ◌≡◌ {A = ℕ} 0 1 = cc in absurd (omega arith)

  pub many-items : (p : List ℕ → One A) (xs : List ℕ) (l : List A) (r : List ℕ) → many p xs ≡ ok l r → items p xs ≡ l
  unfolding many items
  many-items p xs l r e = in_items p (suc (length xs)) xs l r e
