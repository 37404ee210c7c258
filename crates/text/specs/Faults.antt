-- The place of a fault in a line, for each refusal's number, in one file: 4, 5, 6 and 9 are at the line's first byte; 7 is at the name of the leftmost faulty
-- parameter, or at the value where ENCODING is missing; 8 is at the value.
--     Where, Fault       a place in a line;   a refusal at such a place
--     offset s w         how many bytes of the line s stand before the place w
--     fits               what a parameter must be, in a property with a value of a type
--     is_faulty          whether a parameter is faulty, behind others
--     first_faulty       how many parameters stand before the leftmost faulty one
--     parameters_fault   the place of 7 in a line with these parameters, if it has that fault
--     line_fault         the faults of a property's line: 7, then 8
use Rattle.std.specs.Prelude.{Bool, true, false, not, List, [], ◌∷◌, ℕ, zero, suc, ◌+◌, ◌-◌, length, Option, None, Some}
use Rattle.octets.specs.Ascii.{ascii}
use Rattle.octets.specs.Pick.{pick, ◌and◌, ◌or◌}
use Rattle.octets.specs.Class.{is_name_char, upper}
use Rattle.octets.specs.Words.{same, is_one_of}
use Rattle.octets.specs.Lists.{any_one}
use Rattle.octets.specs.Runs.{after_run}
use Rattle.octets.specs.Many.{One, got, bad}
use Rattle.octets.specs.Reading.{is_read, read_or}
use Rattle.calendar.specs.Calendar.{ValueType, BINARY, DURATION}
use Rattle.calendar.specs.Refusal.{Refusal, PARAMETER, VALUE, Verdict, refuse}
use Rattle.schema.specs.Types.{same_type}
use Rattle.schema.specs.Properties.{permits_parameter}
use Rattle.read_text_line.specs.ContentLine.{RawParameter, ContentLine, next_param, content_line}
use Rattle.text.specs.Parameters.{read_parameter, is_value_parameter, type_in, is_raw_base64_encoding}

-- ---- places in a line

-- its first byte; the first byte of the name of its parameter of this number, counted from 0; the first byte of its value, or of the line's end where that is empty
pub data Where : Type 0 where
  line_start : Where
  parameter_name : ℕ → Where
  value_start : Where

pub data Fault : Type 0 where
  fault : Refusal → Where → Fault

-- what is left behind a parameter
abbrev pub left_by : One RawParameter → List ℕ
left_by (got r s) = s
left_by One.none = []
left_by (bad s) = []

-- what is left behind i parameters; the next one begins with its semicolon
unfoldable pub behind : ℕ → List ℕ → List ℕ
behind zero s = s
behind (suc i) s = behind i (left_by (next_param s))

-- the value of a line, which is the line's last part
abbrev pub value_in : Option ContentLine → List ℕ
value_in None = []
value_in (Some l) = l.value

unfoldable pub offset : List ℕ → Where → ℕ
offset s line_start = 0
offset s (parameter_name i) = length s - length (behind i (after_run is_name_char s)) + 1
offset s value_start = length s - length (value_in (content_line s))

-- of a line at place p whose bytes are s
abbrev pub refused_at : Fault → ℕ → List ℕ → Verdict
refused_at (fault r w) p s = refuse r (p + offset s w)

-- ---- parameters: the type of the value is none where VALUE names no type

abbrev pub is_binary : Option ValueType → Bool
is_binary None = false
is_binary (Some t) = same_type t BINARY

abbrev pub is_encoding : RawParameter → Bool
is_encoding r = same (upper r.name) (ascii "ENCODING")

-- a parameter other than VALUE fits the property n with a value of the type t: it is permitted; it is readable; with BINARY, ENCODING is BASE64.
-- Where the value has no type, nothing is judged by it: with DURATION every parameter may stand that may stand with some type
abbrev pub fits : List ℕ → Option ValueType → RawParameter → Bool
fits n t r =
    permits_parameter n (read_or DURATION t) (upper r.name)
    and is_read (read_parameter r)
    and (not (is_binary t and is_encoding r) or is_raw_base64_encoding r)

-- VALUE names a type, another fits
abbrev pub is_sound : (RawParameter → Bool) → RawParameter → Bool
is_sound fit r = pick (is_value_parameter r) (is_read (type_in r.values)) (fit r)

-- behind parameters of the names `before`: it comes again, or is not sound
unfoldable pub is_faulty : (RawParameter → Bool) → List (List ℕ) → RawParameter → Bool
is_faulty fit before r = is_one_of (upper r.name) before or not (is_sound fit r)

-- from the left; `before` has the names of those that were looked at
unfoldable pub first_faulty : (RawParameter → Bool) → List (List ℕ) → List RawParameter → Option ℕ
first_faulty fit before [] = None
first_faulty fit before (r ∷ rs) = pick (is_faulty fit before r) (Some (length before)) (first_faulty fit (upper r.name ∷ before) rs)

-- BINARY without ENCODING
abbrev pub lacks_encoding : Option ValueType → List RawParameter → Bool
lacks_encoding t rs = is_binary t and not (any_one is_encoding rs)

abbrev pub place_of_fault : Option ℕ → Bool → Option Where
place_of_fault (Some i) lacks = Some (parameter_name i)
place_of_fault None true = Some value_start
place_of_fault None false = None

unfoldable pub parameters_fault : List ℕ → Option ValueType → List RawParameter → Option Where
parameters_fault n t rs = place_of_fault (first_faulty (fits n t) [] rs) (lacks_encoding t rs)

-- ---- the line of a property

-- where 7 is, if it is; whether the value is read
abbrev pub line_fault : Option Where → Bool → Option Fault
line_fault (Some w) read = Some (fault PARAMETER w)
line_fault None true = None
line_fault None false = Some (fault VALUE value_start)
