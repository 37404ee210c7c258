-- What a parameter must be, by the property's row and the numbers of the type of its value and of the parameter.
--     encoded_by             with a value of type BINARY, ENCODING is BASE64
--     sound_by               permitted, with good values, encoded so, and such that the edition can spell them
use Rattle.std.specs.Prelude.{Bool, not, ℕ, eqb}
use Rattle.octets.specs.Ascii.{ascii}
use Rattle.octets.specs.Pick.{◌and◌, ◌or◌}
use Rattle.schema.specs.Columns.{permits_at}
use Rattle.schema.specs.declared.table.Row.{Row}
use Rattle.edition.specs.declared.Edition.{Edition}
use Rattle.xml.specs.Nodes.{Nodes}
use Rattle.xcal.specs.ParameterNodes.{are_spelled}
use Rattle.read_xml_parameters.specs.Rows.{row_at}
use Rattle.read_xml_parameters.specs.Several.{good_by, first_is}

-- ---- ENCODING, the parameter of the number 6, and BINARY, the type of the number 0

unfoldable pub encoded_by : ℕ → ℕ → Nodes → Bool
encoded_by q t kids = not (eqb q 6 and eqb t 0) or first_is (ascii "BASE64") kids

-- ---- all of it

unfoldable pub sound_by : Edition → Row → ℕ → ℕ → Nodes → Bool
sound_by ed row t q kids = permits_at row t q and good_by (row_at q) kids and encoded_by q t kids and are_spelled ed kids
