-- What a parameter and a property of a calendar are: typed as the schema says, whichever format they were read from.
--     is_parameter         a parameter's values have its type, or are words of its closed set; one value, unless it takes a list
--     are_property_values  the values of a property in a component: of one permitted type, and words of its closed set where it has one
--     is_property          a property of a component: such values, and parameters that it permits, each once; BINARY with ENCODING=BASE64
-- How often a property stands in a component is no part of this.
use Rattle.std.specs.Prelude.{Bool, false, not, List, [], ◌∷◌, map, ℕ, Option, None, Some}
use Rattle.octets.specs.Ascii.{ascii}
use Rattle.octets.specs.Pick.{pick, ◌and◌, ◌or◌}
use Rattle.octets.specs.Class.{upper}
use Rattle.octets.specs.Words.{same, is_one_of, is_empty}
use Rattle.octets.specs.Lists.{every, any_one, distinct}
use Rattle.calendar.specs.Calendar.{ValueType, BINARY, UNKNOWN, Value, type_of, text_in, Parameter, Property}
use Rattle.schema.specs.Types.{same_type, is_type_of}
use Rattle.schema.specs.Parameters.{parameter_type, is_listed_parameter, parameter_words}
use Rattle.schema.specs.Properties.{permitted_types, is_listed_property, permits_parameter, property_words}
use Rattle.values.specs.WriteValue.{type_of_all}
use Rattle.values.specs.ReadBack.{is_value, is_typed}

-- ---- values

-- at least one, and one only where no list is taken
abbrev pub is_amount : {A : Type 0} → Bool → List A → Bool
is_amount listed [] = false
is_amount listed (x ∷ l) = listed or is_empty l

-- a value of a type, spelled as the type says
abbrev pub is_of_type : ValueType → Value → Bool
is_of_type t v = same_type (type_of v) t and is_typed v and is_value v

-- one of these words
abbrev pub is_word_in : List (List ℕ) → Option (List ℕ) → Bool
is_word_in words None = false
is_word_in words (Some s) = is_one_of s words

-- a value of a type, or a word of a closed set
abbrev pub is_chosen : Option (List (List ℕ)) → ValueType → Value → Bool
is_chosen None t v = is_of_type t v
is_chosen (Some words) t v = is_word_in words (text_in v)

-- ---- parameters

-- a value of a parameter's type: that of an unrecognised parameter is any characters
abbrev pub is_of_parameter : ValueType → Value → Bool
is_of_parameter t v = same_type (type_of v) t and is_typed v and (same_type (type_of v) UNKNOWN or is_value v)

abbrev pub is_parameter_value : Option (List (List ℕ)) → ValueType → Value → Bool
is_parameter_value None t v = is_of_parameter t v
is_parameter_value (Some words) t v = is_word_in words (text_in v)

-- the name is in capitals. VALUE is none: the type stands on the value
unfoldable pub is_parameter : Parameter → Bool
is_parameter p =
    same (upper p.name) p.name
    and not (same p.name (ascii "VALUE"))
    and is_amount (is_listed_parameter p.name) p.values
    and every (is_parameter_value (parameter_words p.name) (parameter_type p.name)) p.values

-- ---- the values of a property

-- GEO and REQUEST-STATUS have values of their own: a latitude and a longitude, of type FLOAT; a code, a description and data, of type TEXT
abbrev pub has_own_values : List ℕ → Bool
has_own_values n = same n (ascii "GEO") or same n (ascii "REQUEST-STATUS")

abbrev pub is_own_value : ValueType → Value → Bool
is_own_value t v = same_type (type_of v) t and not (is_typed v) and is_value v

-- a value of type t of the property n in a component k
abbrev pub is_property_value : List ℕ → List ℕ → ValueType → Value → Bool
is_property_value k n t v = pick (has_own_values n) (is_own_value t v) (is_chosen (property_words k n) t v)

-- all of a type t
unfoldable pub are_values_of : List ℕ → List ℕ → ValueType → List Value → Bool
are_values_of k n t vs = is_type_of t (permitted_types n) and is_amount (is_listed_property n) vs and every (is_property_value k n t) vs

-- all of the type of the first
abbrev pub are_property_values : List ℕ → List ℕ → List Value → Bool
are_property_values k n vs = are_values_of k n (type_of_all vs) vs

-- ---- a property

-- ENCODING=BASE64
abbrev pub is_base64_encoding : Parameter → Bool
is_base64_encoding p = same p.name (ascii "ENCODING") and every (λ v. is_word_in (ascii "BASE64" ∷ []) (text_in v)) p.values

-- the parameters of a property n whose values have type t
unfoldable pub are_parameters : List ℕ → ValueType → List Parameter → Bool
are_parameters n t ps =
    every is_parameter ps
    and distinct (map (λ (p : Parameter). p.name) ps)
    and every (λ (p : Parameter). permits_parameter n t p.name) ps
    and (not (same_type t BINARY) or any_one is_base64_encoding ps)

unfoldable pub is_property : List ℕ → Property → Bool
is_property k p =
    same (upper p.name) p.name
    and are_parameters p.name (type_of_all p.values) p.parameters
    and are_property_values k p.name p.values
