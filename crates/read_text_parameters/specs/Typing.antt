-- A value of a parameter, by the parameter's number.
--     read_by       one value of the parameter that has a given row;   is_value_by: whether it is one
use Rattle.std.specs.Prelude.{Bool, not, Option, None}
use Rattle.octets.specs.Pick.{pick, ◌and◌}
use Rattle.octets.specs.Reading.{is_read}
use Rattle.calendar.specs.Calendar.{Value}
use Rattle.schema.specs.Parameters.{ParameterRow}
use Rattle.edition.specs.declared.Edition.{Edition}
use Rattle.read_text_line.specs.ContentLine.{ParamValue}
use Rattle.read_text_line.specs.Decoded.{decoded_value}
use Rattle.text.specs.Parameters.{read_word}

abbrev pub read_by : ParameterRow → ParamValue → Option Value
read_by p v = pick (not v.quoted and p.quoted) None (read_word p.words p.type v.chars)

abbrev pub is_value_by : ParameterRow → ParamValue → Bool
is_value_by p v = is_read (read_by p v)

-- as an edition reads it
abbrev pub is_value_in : Edition → ParameterRow → ParamValue → Bool
is_value_in ed p v = is_value_by p (decoded_value ed v)
