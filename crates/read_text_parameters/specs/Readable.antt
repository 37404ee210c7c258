-- Parameters that can be read, by their numbers.
--     is_read_by     the values are those of the parameter that has a given row
--     is_readable    a parameter is VALUE, or can be read
use Rattle.std.specs.Prelude.{Bool, List}
use Rattle.octets.specs.Pick.{◌and◌, ◌or◌}
use Rattle.octets.specs.Lists.{every}
use Rattle.octets.specs.Reading.{is_read}
use Rattle.schema.specs.Parameters.{ParameterRow}
use Rattle.read_text_line.specs.ContentLine.{ParamValue, RawParameter}
use Rattle.text.specs.Parameters.{is_single, read_parameter, is_value_parameter}
use Rattle.read_text_parameters.specs.Typing.{is_value_by}

abbrev pub is_read_by : ParameterRow → List ParamValue → Bool
is_read_by p vs = (p.listed or is_single vs) and every (is_value_by p) vs

abbrev pub is_readable : RawParameter → Bool
is_readable r = is_value_parameter r or is_read (read_parameter r)
