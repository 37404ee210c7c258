-- What a conversion answers with an output of a given length, and what the output then holds. A result that is longer than the output is refused with
-- ROOM and its exact length. A refusal leaves the output as it was; a result stands at the output's start and the rest stays.
--     Converted      what an input gives, whatever the output's length: a result, or a refusal with its place
--     Outcome        the answer of a call
--     told           its row in the table of refusals (docs/FORMAT.md): number, place and length;   is_room: ROOM has a length and no place
--     numbers        its number and its one value: the bytes written, a refusal's place, of ROOM the length
use Rattle.std.specs.Prelude.{Bool, List, ℕ, leb, eqb, length, drop}
use Rattle.octets.specs.Pick.{pick}
use Rattle.octets.specs.Append.{◌⊕◌}
use Rattle.calendar.specs.Calendar.{Calendar}
use Rattle.calendar.specs.Refusal.{Refusal, ROOM, number_of, Answer, accepted, refused}

pub data Converted : Type 0 where
  result : List ℕ → Converted
  fault : Refusal → ℕ → Converted

-- by the writer of a format
abbrev pub converted : (Calendar → List ℕ) → Answer → Converted
converted write (accepted c) = result (write c)
converted write (refused r p) = fault r p

pub data Outcome : Type 0 where
  written : ℕ → Outcome
  refusal : Refusal → ℕ → Outcome

abbrev pub is_room : Refusal → Bool
is_room r = eqb (number_of r) (number_of ROOM)

-- its number; its place; the length that was written, or that is needed. Where there is no place, or no length, it is 0
pub record Told : Type 0 where
  pub number : ℕ
  pub place : ℕ
  pub size : ℕ

abbrev pub told : Outcome → Told
told (written n) = record { number = 0; place = 0; size = n }
told (refusal r v) = record { number = number_of r; place = pick (is_room r) 0 v; size = pick (is_room r) v 0 }

abbrev pub numbers : Outcome → ℕ × ℕ
numbers (written n) = (0, n)
numbers (refusal r p) = (number_of r, p)

-- with an output of n bytes
unfoldable pub outcome : Converted → ℕ → Outcome
outcome (result s) n = pick (leb (length s) n) (written (length s)) (refusal ROOM (length s))
outcome (fault r p) n = refusal r p

-- what the output d then holds
unfoldable pub contents : Converted → List ℕ → List ℕ
contents (result s) d = pick (leb (length s) (length d)) (s ⊕ drop (length s) d) d
contents (fault r p) d = d
