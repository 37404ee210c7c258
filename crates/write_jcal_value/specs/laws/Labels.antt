-- Laws of what specs/Labels.antt defines.
--     no_part, other_type     the numbers that have no name of their own
use Rattle.std.specs.Prelude.{◌≡◌, ℕ, ◌≤◌}
use mathlib.Core.List.{List, []}
use Rattle.std.proofs.Math.ListN.{get_or-eq_default}
use Rattle.octets.specs.Ascii.{ascii}
use Rattle.octets.specs.Computing.{octets_compute}
use Rattle.calendar.specs.Calendar.{UNKNOWN}
use Rattle.sink.specs.Sink.{Put}
use Rattle.schema.specs.Types.{value_types}
use Rattle.recur.specs.Parts.{part_names}
use Rattle.json_text.specs.Computing.{json_compute}
use Rattle.write_jcal_value.specs.Labels.{part_label, type_label}

module _ {d e : List ℕ} {o r : ℕ} where
  pub no_part : (p : ℕ) → 14 ≤ p → Put d e o r (ascii "\"\":") → Put d e o r (part_label p)
  unfolding octets_compute json_compute
  no_part p h w = rw (get_or-eq_default part_names [] h) w

  pub other_type : (t : ℕ) → 14 ≤ t → Put d e o r (ascii "\"unknown\"") → Put d e o r (type_label t)
  unfolding octets_compute json_compute
  other_type t h w = rw (get_or-eq_default value_types UNKNOWN h) w
