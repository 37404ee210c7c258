-- Digits as the code reads them through the cursor, to the end or to the first letter.
--     front letters s         what stands before the first letter, or all of s
--     Fronts                  the contract of a step over `front`: r is its byte at a cursor, and the cursor after it
--     worth_to most n s       what the digits of s are worth after digits that are worth n, if there are no others and it is no more than most
use Rattle.std.specs.Prelude.{◌≡◌, Bool, true, false, List, ℕ, ◌+◌, ◌*◌, ◌/◌, ◌^◌, ◌≤◌, ◌<◌, leb, length, Option}
use Rattle.octets.specs.Pick.{◌and◌}
use Rattle.octets.specs.Scan.{all_of}
use Rattle.octets.specs.Class.{is_digit, is_alpha}
use Rattle.octets.specs.Front.{up_to}
use Rattle.octets.specs.Decimal.{value}
use Rattle.octets.specs.Reading.{provided}
use Rattle.source.specs.Source.{rest, spell}
use Rattle.source.specs.declared.points.Unit.{Unit}

abbrev pub front : Bool → List ℕ → List ℕ
front true s = up_to is_alpha s
front false s = s

pub record Fronts (l : Bool) (m : ℕ) (s : List ℕ) (c : ℕ) (r : Unit) : Type 0 where
  pub is : front l (rest m s c) ≡ spell r.u (front l (rest m s r.next))
  pub small : r.u ≤ 256
  pub moved : c < r.next + r.u / 256 * 2 ^ 64
  pub inside : r.next ≤ 4 * length s + r.u / 256 * 2 ^ 64

unfoldable pub worth_to : ℕ → ℕ → List ℕ → Option ℕ
worth_to m n s = provided (all_of is_digit s and leb (value n s) m) (value n s)
