-- The values of a parameter by the parameter's row in the schema's table.
--     row_at           the row of a number
--     read_typed       a value of the parameter's type
--     read_string      one value
--     is_spelled       whether an edition can spell its characters
--     good_values      all values: each read and spelled, and as many as the parameter takes
use Rattle.std.specs.Prelude.{Bool, true, List, [], ℕ, Option, None}
use Rattle.octets.specs.Pick.{◌and◌}
use Rattle.octets.specs.Lists.{every}
use Rattle.octets.specs.Reading.{and_then, is_read, read_or}
use Rattle.calendar.specs.Calendar.{Value}
use Rattle.schema.specs.Parameters.{ParameterRow}
use Rattle.schema.specs.Numbers.{parameter_at}
use Rattle.edition.specs.declared.Edition.{Edition}
use Rattle.edition.specs.declared.Edition.TheVariants.{Rfc5545, Rfc6868}
use Rattle.values.specs.Valid.{is_amount}
use Rattle.json_text.specs.Tree.{Json}
use Rattle.json_text.specs.Kinds.{as_string}
use Rattle.jcal.specs.Parameters.{read_word_in, is_plain}

unfoldable pub row_at : ℕ → ParameterRow
row_at q = parameter_at q

-- where the parameter has no closed set of words
abbrev pub read_typed : ParameterRow → List ℕ → Option Value
read_typed r l = read_word_in None r.type l

-- ---- one value

abbrev pub read_string : ParameterRow → Json → Option Value
read_string r v = and_then (as_string v) (read_word_in r.words r.type)

unfoldable pub is_spelled : Edition → List ℕ → Bool
is_spelled Rfc5545 l = is_plain l
is_spelled Rfc6868 l = true

unfoldable pub good_string : Edition → ParameterRow → List ℕ → Bool
good_string ed r l = is_read (read_word_in r.words r.type l) and is_spelled ed l

unfoldable pub good_value : Edition → ParameterRow → Json → Bool
good_value ed r v = is_read (read_string r v) and is_spelled ed (read_or [] (as_string v))

-- ---- all values

unfoldable pub good_values : Edition → ParameterRow → List Json → Bool
good_values ed r vs = every (good_value ed r) vs and is_amount r.listed vs
