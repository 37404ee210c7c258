-- A piece of markup at a place of the input, found by code.
--     Ends p s at r      the piece p stands at the place `at` of s and ends at the place r; or it does not stand there, and r lies behind the end of s.
--                        From a place behind the end every piece is missing, so one reader's answer is the place of the next, with no test between them
use Rattle.std.specs.Prelude.{◌≡◌, List, ℕ, ◌+◌, ◌-◌, max, ◌≤◌, ◌<◌, length, None, Some}
use Rattle.xml.specs.Pieces.{from, Piece}

pub record Ends (p : Piece) (s : List ℕ) (at r : ℕ) : Type 0 where
  pub onward : at ≤ r
  pub near : r ≤ max at (length s + 1)
  pub stands : r ≤ length s → p (from at s) ≡ Some (r - at)
  pub misses : at ≤ length s → length s < r → p (from at s) ≡ None
