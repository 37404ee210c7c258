-- What stands from a cursor on, up to a byte that ends it.
--     before e s       s up to its first e, or the whole of it
--     until e m s c    the bytes from the cursor c on up to the first e; to the end where e is 256, which is no byte
--     Turns            the contract of a step there, as `Reads` of `source` is one to the end
use Rattle.std.specs.Prelude.{◌≡◌, List, ℕ, ◌+◌, ◌*◌, ◌/◌, ◌^◌, ◌≤◌, ◌<◌, eqb, length}
use Rattle.octets.specs.Pick.{pick}
use Rattle.octets.specs.Front.{up_to}
use Rattle.source.specs.Source.{rest, spell}
use Rattle.source.specs.declared.points.Unit.{Unit}

abbrev pub before : ℕ → List ℕ → List ℕ
before e s = up_to (λ b. eqb b e) s

unfoldable pub until : ℕ → ℕ → List ℕ → ℕ → List ℕ
until e m s c = pick (eqb e 256) (rest m s c) (before e (rest m s c))

pub record Turns (e m : ℕ) (s : List ℕ) (c : ℕ) (r : Unit) : Type 0 where
  pub is : until e m s c ≡ spell r.u (until e m s r.next)
  pub small : r.u ≤ 256
  pub moved : c < r.next + r.u / 256 * 2 ^ 64
  pub inside : r.next ≤ 4 * length s + r.u / 256 * 2 ^ 64
