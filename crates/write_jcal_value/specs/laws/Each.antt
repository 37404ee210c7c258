-- Each of a list, read and written.
--     each_written    what is written of each is what is written of what it was read as
use Rattle.std.specs.Prelude.{◌≡◌, List, [], ◌∷◌, map, ℕ, Option, Some}
use Rattle.octets.specs.Reading.{read_each, cons_read}
use Rattle.octets.specs.laws.Reading.{and_then-some, cons_read-some}

pub each_written : {A B : Type 0} (reading : A → Option B) (f : A → List ℕ) (g : B → List ℕ) → ((a : A) (b : B) → reading a ≡ Some b → f a ≡ g b) →
    (l : List A) (r : List B) → read_each reading l ≡ Some r → map f l ≡ map g r
unfolding read_each
each_written reading f g k [] r h = let z : [] ≡ r = cc in rw (← z)
each_written reading f g k (a ∷ l) r h =
    let e = and_then-some (reading a) (λ b. cons_read b (read_each reading l)) r h in
    let t = cons_read-some e.0 (read_each reading l) r e.2 in
    rw (← t.2, k a e.0 e.1, each_written reading f g k l t.0 t.1)
