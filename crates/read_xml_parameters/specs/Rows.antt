-- The values of a parameter by the parameter's row in the schema's table.
--     row_at                     the row of a number
--     read_leaf, read_leaves     one value, all values
use Rattle.std.specs.Prelude.{List, [], ℕ, Option, None, Some}
use Rattle.octets.specs.Pick.{pick}
use Rattle.octets.specs.Class.{lower, is_space}
use Rattle.octets.specs.Words.{same}
use Rattle.octets.specs.Reading.{and_then, cons_read}
use Rattle.calendar.specs.Calendar.{Value}
use Rattle.schema.specs.Types.{type_name}
use Rattle.schema.specs.Parameters.{ParameterRow}
use Rattle.schema.specs.Numbers.{parameter_at}
use Rattle.xml.specs.Nodes.{Nodes, no_nodes, element, literal, referred, characters_of, has_element}
use Rattle.xcal.specs.ParameterNodes.{read_word_in}

unfoldable pub row_at : ℕ → ParameterRow
row_at q = parameter_at q

unfoldable pub read_leaf : ParameterRow → Nodes → Option Value
read_leaf r kids =
    pick (has_element kids) None (read_word_in r.words r.type (characters_of kids))

unfoldable pub read_leaves : ParameterRow → Nodes → Option (List Value)
read_leaves r no_nodes = Some []
read_leaves r (literal p b more) = pick (is_space b) (read_leaves r more) None
read_leaves r (referred p bs more) = None
read_leaves r (element p m x kids more) = pick (same m (lower (type_name r.type))) (and_then (read_leaf r kids) (λ v. cons_read v (read_leaves r more))) None
