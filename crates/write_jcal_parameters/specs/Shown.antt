-- Parameters of a content line written as members of an object with no regard to whether they are readable.
--     value_shown, shown   a value of a parameter as a string, a parameter as a member
--     members_shown        all parameters of a line, but VALUE
use Rattle.std.specs.Prelude.{Bool, List, map, ℕ}
use Rattle.octets.specs.Ascii.{ascii}
use Rattle.octets.specs.Pick.{pick}
use Rattle.octets.specs.Class.{upper, lower}
use Rattle.octets.specs.Reading.{is_read, or_nothing}
use Rattle.calendar.specs.Calendar.{ical, TEXT, UNKNOWN, Value}
use Rattle.schema.specs.Types.{same_type}
use Rattle.schema.specs.Parameters.{ParameterRow, parameter_row}
use Rattle.schema.specs.Numbers.{parameter_at}
use Rattle.values.specs.ReadValue.{read_value}
use Rattle.edition.specs.declared.Edition.{Edition}
use Rattle.read_text_line.specs.ContentLine.{ParamValue, RawParameter}
use Rattle.read_text_line.specs.Decoded.{decoded_value}
use Rattle.text.specs.Parameters.{own_parameters}
use Rattle.json_text.specs.Write.{quoted, member_of}
use Rattle.jcal.specs.WriteJcal.{one_or_array, parameter_value}

-- the row of a parameter's number
unfoldable pub row_at : ℕ → ParameterRow
row_at q = parameter_at q

abbrev pub truth_string : Bool → List ℕ
truth_string b = pick b (ascii "\"TRUE\"") (ascii "\"FALSE\"")

abbrev pub string_of : Value → List ℕ
string_of v = quoted (parameter_value v)

-- a word of a closed set in capitals, TEXT and the value of an unrecognised parameter as they stand, another value by its type
unfoldable pub value_shown : ParameterRow → List ℕ → List ℕ
value_shown p s =
    pick (is_read p.words) (quoted (upper s))
    (pick (same_type p.type TEXT) (quoted s)
    (pick (same_type p.type UNKNOWN) (quoted s) (or_nothing string_of (read_value ical p.type s))))

abbrev pub chars_shown : ParameterRow → ParamValue → List ℕ
chars_shown p v = value_shown p v.chars

-- as an edition reads it
abbrev pub chars_in : Edition → ParameterRow → ParamValue → List ℕ
chars_in ed p v = chars_shown p (decoded_value ed v)

abbrev pub shown : RawParameter → List ℕ
shown r = member_of (lower r.name) (one_or_array (map (chars_shown (parameter_row (upper r.name))) r.values))

abbrev pub members_shown : List RawParameter → List (List ℕ)
members_shown rs = map shown (own_parameters rs)
