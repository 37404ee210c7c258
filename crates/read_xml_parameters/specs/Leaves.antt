-- One value of a parameter: an element named as the parameter's type, and its characters.
use Rattle.std.specs.Prelude.{Bool, List, ℕ}
use Rattle.octets.specs.Pick.{◌and◌}
use Rattle.octets.specs.Class.{lower}
use Rattle.octets.specs.Words.{same}
use Rattle.octets.specs.Reading.{is_read}
use Rattle.schema.specs.Types.{type_name}
use Rattle.schema.specs.Parameters.{ParameterRow}
use Rattle.xml.specs.Nodes.{Nodes}
use Rattle.read_xml_parameters.specs.Rows.{read_leaf}

-- ---- the name of a value's element

-- an element that is a value of the parameter r
abbrev pub is_value : ParameterRow → List ℕ → Nodes → Bool
is_value r m kids = same m (lower (type_name r.type)) and is_read (read_leaf r kids)
