-- The characters from a cursor on as a reader of dates and times takes them: in iCalendar text letters count as capitals, in XML they stand as they are.
--     cased e s     the characters as they stand (true), or in capitals (false)
--     Spells        the contract of a step: r is the character at a cursor and the cursor after it
use Rattle.std.specs.Prelude.{◌≡◌, Bool, true, false, List, ℕ, ◌+◌, ◌*◌, ◌/◌, ◌^◌, ◌≤◌, ◌<◌, length}
use Rattle.octets.specs.Class.{upper}
use Rattle.source.specs.Source.{rest, spell}
use Rattle.source.specs.declared.points.Unit.{Unit}

unfoldable pub cased : Bool → List ℕ → List ℕ
cased true s = s
cased false s = upper s

pub record Spells (e : Bool) (m : ℕ) (s : List ℕ) (c : ℕ) (r : Unit) : Type 0 where
  pub is : cased e (rest m s c) ≡ spell r.u (cased e (rest m s r.next))
  pub small : r.u ≤ 256
  pub moved : c < r.next + r.u / 256 * 2 ^ 64
  pub inside : r.next ≤ 4 * length s + r.u / 256 * 2 ^ 64
