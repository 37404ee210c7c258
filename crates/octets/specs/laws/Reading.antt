-- Laws of what specs/Reading.antt defines.
--     read_some, provided-some, and_then-some, cons_read-some  what was read, was read from something;   none-some: nothing is not something
--     each_read_back, each_accepted, each_accepted_of, each_empty    each of a list, read and written
use Rattle.std.specs.Prelude.{◌≡◌, Bool, ℕ, Option, None, Some}
use Rattle.std.proofs.Math.Path.{refl}
use Rattle.std.proofs.Math.Bool.{true, false}
use Rattle.std.proofs.lemmas.Bool.{false≢true}
use mathlib.Core.List.{List, [], ◌∷◌, map}
use Rattle.std.proofs.Common.{arith}
use Rattle.octets.specs.Pick.{pick, ◌and◌}
use Rattle.octets.specs.Words.{is_empty}
use Rattle.octets.specs.Lists.{every}
use Rattle.octets.specs.laws.Lists.{every_always, every_both}
use Rattle.octets.specs.Reading.{provided, and_then, is_read, cons_read, read_each}

pub none-some : {A X : Type 0} {a : A} → None ≡ Some a → X
none-some e = let z : ◌≡◌ {A = ℕ} 0 1 = cc in absurd (omega arith)

module _ {A : Type 0} where
  pub read_some : (o : Option A) → is_read o ≡ true → (a : A) × (o ≡ Some a)
  unfolding is_read
  read_some None h = absurd (false≢true h)
  read_some (Some a) h = (a, refl)

  pub provided-some : (t : Bool) (a v : A) → provided t a ≡ Some v → (t ≡ true) × (a ≡ v)
  unfolding pick
  provided-some true a v h = (refl, cc)
  provided-some false a v h = none-some h

  pub and_then-some : {B : Type 0} (o : Option A) (f : A → Option B) (v : B) → and_then o f ≡ Some v → (a : A) × (o ≡ Some a) × (f a ≡ Some v)
  unfolding and_then
  and_then-some None f v h = none-some h
  and_then-some (Some a) f v h = (a, refl, h)

  pub cons_read-some : (a : A) (o : Option (List A)) (v : List A) → cons_read a o ≡ Some v → (l : List A) × (o ≡ Some l) × (a ∷ l ≡ v)
  unfolding cons_read
  cons_read-some a None v h = none-some h
  cons_read-some a (Some l) v h = (l, refl, cc)

-- ---- each of a list, read and written

module _ {A B : Type 0} (reading : A → Option B) (q : B → Bool) where
  -- each is read back, where one is
  pub each_read_back : (writing : B → A) → ((b : B) → q b ≡ true → reading (writing b) ≡ Some b) → (l : List B) → every q l ≡ true → read_each reading (map writing l) ≡ Some l
  unfolding read_each and_then cons_read
  each_read_back writing k [] h = refl
  each_read_back writing k (b ∷ l) h = let e = every_both q b l h in rw (k b e.0, each_read_back writing k l e.1)

  -- each that is read passes what one passes, where what it is read from passes a test of its own
  pub each_accepted_of : (p : A → Bool) → ((a : A) (b : B) → p a ≡ true → reading a ≡ Some b → q b ≡ true) →
      (l : List A) (r : List B) → every p l ≡ true → read_each reading l ≡ Some r → every q r ≡ true
  unfolding read_each every ◌and◌
  each_accepted_of p k [] r t h = let z : [] ≡ r = cc in rw (← z)
  each_accepted_of p k (a ∷ l) r t h =
      let d = every_both p a l t in
      let e = and_then-some (reading a) (λ b. cons_read b (read_each reading l)) r h in
      let f = cons_read-some e.0 (read_each reading l) r e.2 in
      rw (← f.2, k a e.0 d.0 e.1) (each_accepted_of p k l f.0 d.1 f.1)

  pub each_accepted : ((a : A) (b : B) → reading a ≡ Some b → q b ≡ true) → (l : List A) (r : List B) → read_each reading l ≡ Some r → every q r ≡ true
  each_accepted k l r h = each_accepted_of (λ a. true) (λ a b t e. k a b e) l r (every_always (λ a. true) (λ a. refl) l) h

-- as many as there were: none only of none
pub each_empty : {A B : Type 0} (reading : A → Option B) (l : List A) (r : List B) → read_each reading l ≡ Some r → is_empty r ≡ is_empty l
unfolding read_each
each_empty reading [] r h = let z : [] ≡ r = cc in rw (← z)
each_empty reading (a ∷ l) r h =
    let e = and_then-some (reading a) (λ b. cons_read b (read_each reading l)) r h in
    let f = cons_read-some e.0 (read_each reading l) r e.2 in
    rw (← f.2)
