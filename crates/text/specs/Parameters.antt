-- The parameters of a content line (RFC 5545, section 3.2), typed by the schema. The rules of refusal 7 are in Faults.
--     read_parameter      a parameter with its values typed; none where one of them is bad
--     stated_type         the type that VALUE names, or the property's default; none where VALUE names no type
--     read_parameters     the parameters that a line states, all but VALUE, typed
use Rattle.std.specs.Prelude.{Bool, false, not, List, [], ◌∷◌, ℕ, Option, None, Some, option_map}
use Rattle.octets.specs.Ascii.{ascii}
use Rattle.octets.specs.Pick.{pick, ◌and◌, ◌or◌}
use Rattle.octets.specs.Class.{upper}
use Rattle.octets.specs.Words.{same, is_one_of, is_empty}
use Rattle.octets.specs.Reading.{provided, read_each}
use Rattle.calendar.specs.Calendar.{ical, ValueType, TEXT, UNKNOWN, Value, text, unknown, Parameter}
use Rattle.schema.specs.Types.{type_named, same_type}
use Rattle.schema.specs.Properties.{default_type}
use Rattle.schema.specs.Parameters.{parameter_type, is_listed_parameter, parameter_words, is_quoted_parameter}
use Rattle.values.specs.ReadValue.{read_value}
use Rattle.read_text_line.specs.ContentLine.{ParamValue, RawParameter}

-- the value of a parameter of a type: TEXT stands as it is, with no escapes, and so does that of an unrecognised parameter
abbrev pub read_typed : ValueType → List ℕ → Option Value
read_typed t s = pick (same_type t TEXT) (Some (text s)) (pick (same_type t UNKNOWN) (Some (unknown s)) (read_value ical t s))

-- a word of a closed set is read in any letter case and kept in capitals
abbrev pub read_word : Option (List (List ℕ)) → ValueType → List ℕ → Option Value
read_word None t s = read_typed t s
read_word (Some words) t s = provided (is_one_of (upper s) words) (text (upper s))

-- one value of the parameter n; six parameters must be quoted
unfoldable pub read_param_value : List ℕ → ParamValue → Option Value
read_param_value n v = pick (not v.quoted and is_quoted_parameter n) None (read_word (parameter_words n) (parameter_type n) v.chars)

-- one value, unless the parameter is listed
abbrev pub is_single : {A : Type 0} → List A → Bool
is_single [] = false
is_single (x ∷ l) = is_empty l

unfoldable pub read_parameter : RawParameter → Option Parameter
read_parameter r =
    pick (is_listed_parameter (upper r.name) or is_single r.values)
    (option_map (λ vs. record { name = upper r.name; values = vs }) (read_each (read_param_value (upper r.name)) r.values))
    None

-- ---- VALUE

abbrev pub is_value_parameter : RawParameter → Bool
is_value_parameter r = same (upper r.name) (ascii "VALUE")

-- the type that VALUE's one value names, quoted or not, in any letter case
abbrev pub type_in : List ParamValue → Option ValueType
type_in [] = None
type_in (v ∷ vs) = pick (is_empty vs) (type_named (upper v.chars)) None

unfoldable pub stated_type : List ℕ → List RawParameter → Option ValueType
stated_type n [] = Some (default_type n)
stated_type n (r ∷ rs) = pick (is_value_parameter r) (type_in r.values) (stated_type n rs)

-- ---- all parameters of a property

unfoldable pub own_parameters : List RawParameter → List RawParameter
own_parameters [] = []
own_parameters (r ∷ rs) = pick (is_value_parameter r) (own_parameters rs) (r ∷ own_parameters rs)

abbrev pub read_parameters : List RawParameter → Option (List Parameter)
read_parameters rs = read_each read_parameter (own_parameters rs)

-- ENCODING=BASE64
abbrev pub is_word : List ℕ → List ParamValue → Bool
is_word w [] = false
is_word w (v ∷ vs) = same (upper v.chars) w and is_empty vs

abbrev pub is_raw_base64_encoding : RawParameter → Bool
is_raw_base64_encoding r = same (upper r.name) (ascii "ENCODING") and is_word (ascii "BASE64") r.values
