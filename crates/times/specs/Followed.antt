-- What following a pattern answers: the number of its digits and the cursor after it, if all of it was passed.
--     Walks     the contract
use Rattle.std.specs.Prelude.{◌≡◌, Bool, List, ℕ, Option, None, Some}
use Rattle.source.specs.Source.{rest}
use Rattle.times.specs.Letters.{cased}
use Rattle.times.specs.Pattern.{Followed, reached, lost, along}
use Rattle.times.specs.declared.follow.Walk.{Walk}

abbrev pub walked : Bool → ℕ → List ℕ → Option Walk → Followed
walked e m s (Some w) = reached w.number (cased e (rest m s w.next))
walked e m s None = lost

pub record Walks (p : List ℕ) (e : Bool) (m : ℕ) (s : List ℕ) (c : ℕ) (r : Option Walk) : Type 0 where
  pub is : along p 0 (cased e (rest m s c)) ≡ walked e m s r
