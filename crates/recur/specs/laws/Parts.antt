-- Laws of what specs/Parts.antt defines.
--     is_part_name  a name of a part
use Rattle.std.specs.Prelude.{Bool, List, ℕ}
use Rattle.octets.specs.Words.{is_one_of}
use Rattle.recur.specs.Parts.{part_names}

abbrev pub is_part_name : List ℕ → Bool
is_part_name n = is_one_of n part_names
