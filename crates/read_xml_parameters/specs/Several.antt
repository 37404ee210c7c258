-- All values of a parameter.
--     all_values                the content is values of a parameter alone
--     is_single                 one value at most
--     good_by                   what `values_good` asks for
--     first_is                  the first value's characters are a word
use Rattle.std.specs.Prelude.{Bool, true, false, not, List, ℕ}
use Rattle.octets.specs.Pick.{◌and◌, ◌or◌}
use Rattle.octets.specs.Class.{is_space}
use Rattle.octets.specs.Words.{same}
use Rattle.schema.specs.Parameters.{ParameterRow}
use Rattle.xml.specs.Nodes.{Nodes, no_nodes, element, literal, referred, characters_of, has_element}
use Rattle.read_xml_parameters.specs.Leaves.{is_value}

-- ---- all are values

unfoldable pub all_values : ParameterRow → Nodes → Bool
all_values r no_nodes = true
all_values r (literal p b more) = is_space b and all_values r more
all_values r (referred p bs more) = false
all_values r (element p m x kids more) = is_value r m kids and all_values r more

-- ---- how many

unfoldable pub is_single : Nodes → Bool
is_single no_nodes = true
is_single (literal p b more) = is_single more
is_single (referred p bs more) = is_single more
is_single (element p m x kids more) = not (has_element more)

-- one value, unless the parameter is listed
unfoldable pub good_by : ParameterRow → Nodes → Bool
good_by r kids = all_values r kids and (r.listed or is_single kids)

-- ---- the first

-- the characters of the first element are w; there may be none
unfoldable pub first_is : List ℕ → Nodes → Bool
first_is w no_nodes = true
first_is w (literal p b more) = first_is w more
first_is w (referred p bs more) = first_is w more
first_is w (element p m x kids more) = same (characters_of kids) w
