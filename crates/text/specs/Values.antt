-- The values of a property in iCalendar text, by its type (RFC 5545, section 3.3 and the value type of each property in section 3.8).
--     read_values k n t s   the values that s spells for the property n of a component k, of type t; none where the type is not permitted or s does not spell one
use Rattle.std.specs.Prelude.{List, [], ◌∷◌, map, ℕ, Option, None, Some, option_map}
use Rattle.octets.specs.Ascii.{ascii}
use Rattle.octets.specs.Pick.{pick}
use Rattle.octets.specs.Class.{upper}
use Rattle.octets.specs.Words.{same, is_one_of, cut_at}
use Rattle.octets.specs.Reading.{provided, read_each}
use Rattle.calendar.specs.Calendar.{ical, ValueType, TEXT, Value, text}
use Rattle.schema.specs.Types.{same_type, is_type_of}
use Rattle.schema.specs.Properties.{permitted_types, is_listed_property, property_words}
use Rattle.numbers.specs.Geo.{read_geo}
use Rattle.texts.specs.TextList.{read_texts}
use Rattle.texts.specs.RequestStatus.{read_request_status}
use Rattle.values.specs.ReadValue.{read_value}

abbrev pub one_value : Option Value → Option (List Value)
one_value o = option_map (λ v. v ∷ []) o

-- the values of CATEGORIES, RESOURCES, FREEBUSY, EXDATE, RDATE, with commas between them; 44 is the comma
abbrev pub read_listed : ValueType → List ℕ → Option (List Value)
read_listed t s = pick (same_type t TEXT) (option_map (map text) (read_texts s)) (read_each (read_value ical t) (cut_at 44 s))

-- a word of a closed set is read in any letter case and kept in capitals
abbrev pub read_chosen : Option (List (List ℕ)) → ValueType → List ℕ → Option Value
read_chosen None t s = read_value ical t s
read_chosen (Some words) t s = provided (is_one_of (upper s) words) (text (upper s))

-- GEO and REQUEST-STATUS have values of their own
abbrev pub read_own : List ℕ → List ℕ → ValueType → List ℕ → Option (List Value)
read_own k n t s =
    pick (same n (ascii "GEO")) (one_value (read_geo s))
    (pick (same n (ascii "REQUEST-STATUS")) (one_value (read_request_status s))
    (pick (is_listed_property n) (read_listed t s) (one_value (read_chosen (property_words k n) t s))))

unfoldable pub read_values : List ℕ → List ℕ → ValueType → List ℕ → Option (List Value)
read_values k n t s = pick (is_type_of t (permitted_types n)) (read_own k n t s) None
