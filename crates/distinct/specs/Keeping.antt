-- Words collected by their cuts, from a number and up to another, in two lists.
--     has_room f t k a e     the place k is there in f and in t, and a and e are numbers that they can hold
--     KeepsIf f t k a e g u r    the cut from a up to e is put at the place k of f and t, which become g and u, where there is room; r says whether
--     Keeps f t k a e g u    the same where there is room
use Rattle.std.specs.Prelude.{◌≡◌, Bool, List, ℕ, ◌<◌, ltb, length, set}
use Rattle.octets.specs.Pick.{pick, ◌and◌}

abbrev pub has_room : List ℕ → List ℕ → ℕ → ℕ → ℕ → Bool
has_room f t k a e = ltb a 65536 and ltb e 65536 and ltb k (length f) and ltb k (length t)

pub record KeepsIf (f t : List ℕ) (k a e : ℕ) (g u : List ℕ) (r : Bool) : Type 0 where
  pub kept : r ≡ has_room f t k a e
  pub first : g ≡ pick (has_room f t k a e) (set f k a) f
  pub last : u ≡ pick (has_room f t k a e) (set t k e) t

pub record Keeps (f t : List ℕ) (k a e : ℕ) (g u : List ℕ) : Type 0 where
  pub room : k < length f
  pub place : k < length t
  pub first : g ≡ set f k a
  pub last : u ≡ set t k e
