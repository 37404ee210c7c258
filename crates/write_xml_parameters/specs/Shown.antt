-- Parameters of a content line written as XML with no regard to whether they are readable.
--     value_shown, shown, own_shown  a value of a parameter as its element, a parameter as its element, and nothing of VALUE
--     parameters_shown               all parameters of a line, but VALUE
use Rattle.std.specs.Prelude.{List, [], map, ℕ}
use Rattle.octets.specs.Pick.{pick}
use Rattle.octets.specs.Append.{joined}
use Rattle.octets.specs.Class.{upper, lower}
use Rattle.octets.specs.Reading.{is_read, or_nothing}
use Rattle.calendar.specs.Calendar.{ical, TEXT, UNKNOWN, text, unknown}
use Rattle.schema.specs.Types.{same_type}
use Rattle.schema.specs.Parameters.{ParameterRow, parameter_row}
use Rattle.values.specs.ReadValue.{read_value}
use Rattle.edition.specs.declared.Edition.{Edition}
use Rattle.read_text_line.specs.ContentLine.{ParamValue, RawParameter}
use Rattle.read_text_line.specs.Decoded.{decoded_value}
use Rattle.xml.specs.Escape.{element_of}
use Rattle.text.specs.Parameters.{is_value_parameter}
use Rattle.xcal.specs.WriteXml.{value_xml}

-- a word of a closed set in capitals, TEXT and the value of an unrecognised parameter as they stand, another value as the element of its type
unfoldable pub value_shown : ParameterRow → List ℕ → List ℕ
value_shown p s =
    pick (is_read p.words) (value_xml (text (upper s)))
    (pick (same_type p.type TEXT) (value_xml (text s))
    (pick (same_type p.type UNKNOWN) (value_xml (unknown s)) (or_nothing value_xml (read_value ical p.type s))))

abbrev pub chars_shown : ParameterRow → ParamValue → List ℕ
chars_shown p v = value_shown p v.chars

-- as an edition reads it
abbrev pub chars_in : Edition → ParameterRow → ParamValue → List ℕ
chars_in ed p v = chars_shown p (decoded_value ed v)

abbrev pub shown : RawParameter → List ℕ
shown r = element_of (lower r.name) (joined (map (chars_shown (parameter_row (upper r.name))) r.values))

abbrev pub own_shown : RawParameter → List ℕ
own_shown r = pick (is_value_parameter r) [] (shown r)

abbrev pub parameters_shown : List RawParameter → List ℕ
parameters_shown rs = joined (map own_shown rs)
