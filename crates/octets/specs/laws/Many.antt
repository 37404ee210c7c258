-- Laws of what specs/Many.antt defines.
--     many-got, many-none, many-bad    a turn of it;   bad-got, none-got: no item is an item
--     write_all w l r  the items of l written in front of r;   joined_all, each_after_all: lists joined are so written
--     Each F l         F holds of each item;   each_of_every, every_of_each: as a test
--     many_round       items written are read back
--     many_read        what is read passes what each item passes, and is written back
use Prim.Native.Nat.{ℕ, zero, suc, ◌<◌}
use mathlib.Core.List.{List, [], ◌∷◌, map}
use Rattle.std.specs.Prelude.{Bool}
use Rattle.std.proofs.Math.Bool.{true, false, cond}
use Rattle.std.proofs.Math.Path.{◌≡◌, refl, ap}
use Rattle.std.proofs.Common.{◌∙◌, arith}
use Rattle.std.proofs.Math.Dec.{ltb}
use Rattle.std.proofs.Math.ListN.{length}
use borrow.Author.Tests.{lt-ltb, ltb-true}
use Rattle.octets.specs.Pick.{◌and◌}
use Rattle.octets.specs.Append.{◌⊕◌, joined}
use Rattle.octets.specs.laws.Append.{append_regroup, append_empty, append_cons}
use Rattle.octets.specs.Words.{each_after}
use Rattle.octets.specs.Lists.{every}
use Rattle.octets.specs.laws.Lists.{every_both}
use Rattle.octets.specs.Many.{One, got, none, bad, All, ok, no, cons, many_by, many_in, many}

module _ {A : Type 0} where
  many_fuel : (p : List ℕ → One A) (k j : ℕ) (xs : List ℕ) → length xs < k → length xs < j → many_in k p xs ≡ many_in j p xs
  unfolding many_in many_by
  many_fuel p zero j xs h q = absurd (omega arith)
  many_fuel p (suc k) zero xs h q = absurd (omega arith)
  many_fuel p (suc k) (suc j) xs h q = go (p xs) (λ r l. many_fuel p k j r (omega arith) (omega arith))
    where
      go : (o : One A) → ((r : List ℕ) → length r < length xs → many_in k p r ≡ many_in j p r) → many_by o (many_in k p) xs ≡ many_by o (many_in j p) xs
      go (got a r) ih = both (ltb (length r) (length xs)) refl
        where
          both : (b : Bool) → ltb (length r) (length xs) ≡ b → cond b (cons a (many_in k p r)) (no xs) ≡ cond b (cons a (many_in j p r)) (no xs)
          both true e = ap (cons a) (ih r (ltb-true _ _ e))
          both false e = refl
      go none ih = refl
      go (bad r) ih = refl

  pub many-got : (p : List ℕ → One A) (xs : List ℕ) (a : A) (r : List ℕ) → p xs ≡ got a r → length r < length xs → many p xs ≡ cons a (many p r)
  unfolding many many_in many_by
  many-got p xs a r e h = rw (e, lt-ltb _ _ h) (ap (cons a) (many_fuel p (length xs) (suc (length r)) r h (omega arith)))

  pub many-none : (p : List ℕ → One A) (xs : List ℕ) → p xs ≡ none → many p xs ≡ ok [] xs
  unfolding many many_in many_by
  many-none p xs e = rw e

  pub many-bad : (p : List ℕ → One A) (xs r : List ℕ) → p xs ≡ bad r → many p xs ≡ no r
  unfolding many many_in many_by
  many-bad p xs r e = rw e

  pub bad-got : {X : Type 0} {a : A} {r t : List ℕ} → bad t ≡ got a r → X
  bad-got e = let z : ◌≡◌ {A = ℕ} 0 1 = cc in absurd (omega arith)

  pub none-got : {X : Type 0} {a : A} {r : List ℕ} → none ≡ got a r → X
  none-got e = let z : ◌≡◌ {A = ℕ} 0 1 = cc in absurd (omega arith)

  -- all items written in front of what follows
  abbrev pub write_all : (A → List ℕ → List ℕ) → List A → List ℕ → List ℕ
  write_all w [] r = r
  write_all w (a ∷ l) r = w a (write_all w l r)

  -- every item is one that can be written
  pub data Each (F : A → Type 0) : List A → Type 0 where
    each_none : Each F []
    each_more : {a : A} {l : List A} → F a → Each F l → Each F (a ∷ l)

  pub each_of_every : (f : A → Bool) (l : List A) → every f l ≡ true → Each (λ a. f a ≡ true) l
  unfolding every
  each_of_every f [] h = each_none
  each_of_every f (a ∷ l) h = let q = every_both f a l h in each_more q.0 (each_of_every f l q.1)

  pub every_of_each : (f : A → Bool) (l : List A) → Each (λ a. f a ≡ true) l → every f l ≡ true
  unfolding every ◌and◌
  every_of_each f [] h = refl
  every_of_each f (a ∷ l) (each_more p q) = rw p (every_of_each f l q)

  -- lists written one after another, in front of what follows
  pub joined_all : (w : A → List ℕ) (l : List A) (r : List ℕ) → joined (map w l) ⊕ r ≡ write_all (λ a t. w a ⊕ t) l r
  unfolding joined
  joined_all w [] r = append_empty r
  joined_all w (a ∷ l) r = append_regroup (w a) (joined (map w l)) r ∙ ap (λ (t : List ℕ). w a ⊕ t) (joined_all w l r)

  -- the same of lists with a byte before each
  pub each_after_all : (c : ℕ) (w : A → List ℕ) (l : List A) (r : List ℕ) → each_after c (map w l) ⊕ r ≡ write_all (λ a t. c ∷ (w a ⊕ t)) l r
  unfolding each_after
  each_after_all c w [] r = append_empty r
  each_after_all c w (a ∷ l) r =
      append_cons c (w a ⊕ each_after c (map w l)) r
      ∙ ap (λ (t : List ℕ). c ∷ t) (append_regroup (w a) (each_after c (map w l)) r ∙ ap (λ (t : List ℕ). w a ⊕ t) (each_after_all c w l r))

  -- the round trip of a repetition, from that of an item. F: what can be written; G: what may follow
  pub many_round : (p : List ℕ → One A) (w : A → List ℕ → List ℕ) (F : A → Type 0) (G : List ℕ → Type 0) → ((a : A) (r : List ℕ) → F a → G r → p (w a r) ≡ got a r) → ((a : A) (r : List ℕ) → length r < length (w a r)) → ((a : A) (r : List ℕ) → G r → G (w a r)) → (l : List A) (r : List ℕ) → Each F l → G r → p r ≡ none → (many p (write_all w l r) ≡ ok l r) × G (write_all w l r)
  many_round p w F G rt lt gw [] r each_none g e = (many-none p r e, g)
  many_round p w F G rt lt gw (a ∷ l) r (each_more f fs) g e =
      let ih = many_round p w F G rt lt gw l r fs g e in
      (many-got p _ a _ (rt a _ f ih.1) (lt a _) ∙ rw ih.0, gw a _ ih.1)

-- F holds of each item that is read, and writing it takes the reading back
module _ {A : Type 0} (p : List ℕ → One A) (w : A → List ℕ → List ℕ) (F : A → Type 0) (one : (s : List ℕ) (a : A) (r : List ℕ) → p s ≡ got a r → F a × (w a r ≡ s)) where
  in_read : (k : ℕ) (s : List ℕ) (l : List A) (r : List ℕ) → many_in k p s ≡ ok l r → Each F l × (write_all w l r ≡ s)
  unfolding many_in many_by
  in_read zero s l r e = let z : ◌≡◌ {A = ℕ} 0 1 = cc in absurd (omega arith)
  in_read (suc k) s l r e = go (p s) refl e (in_read k)
    where
      go : (o : One A) → p s ≡ o → many_by o (many_in k p) s ≡ ok l r → ((t : List ℕ) (m : List A) (u : List ℕ) → many_in k p t ≡ ok m u → Each F m × (write_all w m u ≡ t)) → Each F l × (write_all w l r ≡ s)
      go (got a t) q e ih = both (ltb (length t) (length s)) (many_in k p t) refl e
        where
          both : (b : Bool) (o : All A) → many_in k p t ≡ o → cond b (cons a o) (no s) ≡ ok l r → Each F l × (write_all w l r ≡ s)
          both true (ok m u) i e =
              let f = one s a t q in
              let g = ih t m u i in
              let x : a ∷ m ≡ l = cc in
              let y : u ≡ r = cc in
              rw (← x, ← y) (each_more f.0 g.0, rw g.1 f.1)
          both true (no u) i e = let z : ◌≡◌ {A = ℕ} 0 1 = cc in absurd (omega arith)
          both false o i e = let z : ◌≡◌ {A = ℕ} 0 1 = cc in absurd (omega arith)
      go none q e ih =
          let x : [] ≡ l = cc in
          let y : s ≡ r = cc in
          rw (← x, ← y) (each_none, refl)
      go (bad t) q e ih = let z : ◌≡◌ {A = ℕ} 0 1 = cc in absurd (omega arith)

  pub many_read : (s : List ℕ) (l : List A) (r : List ℕ) → many p s ≡ ok l r → Each F l × (write_all w l r ≡ s)
  unfolding many
  many_read s l r e = in_read (suc (length s)) s l r e
