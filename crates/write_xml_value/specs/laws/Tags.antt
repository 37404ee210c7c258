-- Laws of what specs/Tags.antt defines.
--     no_part, other_type     the numbers that have no name of their own
use Rattle.std.specs.Prelude.{◌≡◌, refl, ℕ, zero, suc, ◌≤◌, length, get_or}
use mathlib.Core.List.{List, [], ◌∷◌}
use Rattle.std.proofs.Common.{arith}
use Rattle.octets.specs.Ascii.{ascii}
use Rattle.octets.specs.Class.{lower}
use Rattle.octets.specs.Computing.{octets_compute}
use Rattle.calendar.specs.Calendar.{UNKNOWN}
use Rattle.sink.specs.Sink.{Put}
use Rattle.schema.specs.Types.{value_types}
use Rattle.recur.specs.Parts.{part_names}
use Rattle.write_xml_value.specs.Tags.{type_label}

past_last : {A : Type 0} (l : List A) (k : ℕ) (a : A) → length l ≤ k → get_or l k a ≡ a
past_last [] k a h = refl
past_last (x ∷ l) zero a h = absurd (omega arith)
past_last (x ∷ l) (suc k) a h = past_last l k a (omega arith)

module _ {d e : List ℕ} {o r : ℕ} where
  pub no_part : (p : ℕ) → 14 ≤ p → Put d e o r [] → Put d e o r (lower (get_or part_names p []))
  unfolding octets_compute
  no_part p h w = rw (past_last part_names p [] h) w

  pub other_type : (t : ℕ) → 14 ≤ t → Put d e o r (ascii "unknown") → Put d e o r (type_label t)
  unfolding octets_compute
  other_type t h w = rw (past_last value_types t UNKNOWN h) w
