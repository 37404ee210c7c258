-- Names by number, in small letters, as JSON strings.
--     part_label   the name of a rule's part, and a colon
--     type_label   the name of a type
use Rattle.std.specs.Prelude.{List, [], ℕ, get_or}
use Rattle.octets.specs.Ascii.{ascii}
use Rattle.octets.specs.Append.{◌⊕◌}
use Rattle.octets.specs.Class.{lower}
use Rattle.schema.specs.Types.{type_name}
use Rattle.schema.specs.Numbers.{type_at}
use Rattle.recur.specs.Parts.{part_names}
use Rattle.json_text.specs.Write.{quoted}

abbrev pub part_label : ℕ → List ℕ
part_label p = quoted (lower (get_or part_names p [])) ⊕ ascii ":"

abbrev pub type_label : ℕ → List ℕ
type_label t = quoted (lower (type_name (type_at t)))
