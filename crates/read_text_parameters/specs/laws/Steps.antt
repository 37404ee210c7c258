-- A test of all of a list, an element at a time: `go` where it goes on with the others, `halt` where it is decided, `nil` at the end.
use Rattle.std.specs.Prelude.{◌≡◌, Bool, true, false, List, [], ◌∷◌}
use Rattle.std.proofs.Math.Path.{refl}
use Rattle.octets.specs.Pick.{◌and◌}
use Rattle.octets.specs.Lists.{every}

module _ {A : Type 0} (p : A → Bool) where
  pub every_nil : every p [] ≡ true
  unfolding every
  every_nil = refl

  module _ (a : A) (l : List A) {t : Bool} (e : t ≡ p a) where
    pub every_go : t ≡ true → every p (a ∷ l) ≡ every p l
    unfolding every ◌and◌
    every_go h = rw (← e, h)

    pub every_halt : t ≡ false → every p (a ∷ l) ≡ false
    unfolding every ◌and◌
    every_halt h = rw (← e, h)
