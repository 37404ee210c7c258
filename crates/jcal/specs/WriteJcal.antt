-- The canonical jCal of a calendar (RFC 7265, section 3): no white space outside strings, escapes only for quote, backslash, LF and TAB.
--     value_json, parameter_json, property_json, components_json  each as JSON
--     write_jcal                                                  the text: one calendar alone, two or more in one outer array
use Rattle.std.specs.Prelude.{List, [], ◌∷◌, map, ℕ, Option, None, Some}
use Rattle.octets.specs.Class.{lower}
use Rattle.calendar.specs.Calendar.{ical, xcal, RuleItem, moment, number, word, weekday, RulePart, Value, binary, boolean, cal_address, date, date_time, duration, float, integer, period_explicit, period_start, recur, text, time, uri, utc_offset, unknown, geo, request_status, Parameter, Property, Components, no_more, component}
use Rattle.schema.specs.Types.{type_name}
use Rattle.times.specs.DateTime.{write_date_time}
use Rattle.times.specs.Duration.{write_duration}
use Rattle.numbers.specs.Boolean.{write_boolean}
use Rattle.numbers.specs.Float.{write_float}
use Rattle.recur.specs.Item.{write_item}
use Rattle.values.specs.WriteValue.{value_characters, type_of_all}
use Rattle.json_text.specs.Write.{quoted, array_of, member_of, object_of}

-- one alone, or an array
abbrev pub one_or_array : List (List ℕ) → List ℕ
one_or_array [] = array_of []
one_or_array (v ∷ []) = v
one_or_array (v ∷ w ∷ vs) = array_of (v ∷ w ∷ vs)

-- ---- values (section 3.6)

-- a number is a JSON number, all else a string
abbrev pub item_json : RuleItem → List ℕ
item_json (moment m) = quoted (write_item xcal (moment m))
item_json (number w) = write_item xcal (number w)
item_json (word w) = quoted (write_item xcal (word w))
item_json (weekday o d) = quoted (write_item xcal (weekday o d))

abbrev pub part_json : RulePart → List ℕ
part_json p = member_of (lower p.part) (one_or_array (map item_json p.items))

abbrev pub data_json : Option (List ℕ) → List (List ℕ)
data_json None = []
data_json (Some s) = quoted s ∷ []

-- the characters are those of the XML element: BOOLEAN, FLOAT and INTEGER as they stand, the other types as a string
unfoldable pub value_json : Value → List ℕ
value_json (binary s) = quoted (value_characters (binary s))
value_json (boolean b) = value_characters (boolean b)
value_json (cal_address s) = quoted (value_characters (cal_address s))
value_json (date s) = quoted (value_characters (date s))
value_json (date_time s) = quoted (value_characters (date_time s))
value_json (duration s) = quoted (value_characters (duration s))
value_json (float d) = value_characters (float d)
value_json (integer w) = value_characters (integer w)
value_json (period_explicit s e) = array_of (quoted (write_date_time xcal s) ∷ quoted (write_date_time xcal e) ∷ [])
value_json (period_start s d) = array_of (quoted (write_date_time xcal s) ∷ quoted (write_duration xcal d) ∷ [])
value_json (recur ps) = object_of (map part_json ps)
value_json (text s) = quoted (value_characters (text s))
value_json (time s) = quoted (value_characters (time s))
value_json (uri s) = quoted (value_characters (uri s))
value_json (utc_offset s) = quoted (value_characters (utc_offset s))
value_json (unknown s) = quoted (value_characters (unknown s))
value_json (geo la lo) = array_of (write_float la ∷ write_float lo ∷ [])
value_json (request_status c d x) = array_of (quoted c ∷ quoted d ∷ data_json x)

-- ---- parameters (section 3.5) and properties (section 3.4)

-- RSVP is a string, TRUE or FALSE
unfoldable pub parameter_value : Value → List ℕ
parameter_value (binary s) = value_characters (binary s)
parameter_value (boolean b) = write_boolean ical b
parameter_value (cal_address s) = value_characters (cal_address s)
parameter_value (date s) = value_characters (date s)
parameter_value (date_time s) = value_characters (date_time s)
parameter_value (duration s) = value_characters (duration s)
parameter_value (float d) = value_characters (float d)
parameter_value (integer w) = value_characters (integer w)
parameter_value (period_explicit s e) = value_characters (period_explicit s e)
parameter_value (period_start s d) = value_characters (period_start s d)
parameter_value (recur ps) = value_characters (recur ps)
parameter_value (text s) = value_characters (text s)
parameter_value (time s) = value_characters (time s)
parameter_value (uri s) = value_characters (uri s)
parameter_value (utc_offset s) = value_characters (utc_offset s)
parameter_value (unknown s) = value_characters (unknown s)
parameter_value (geo la lo) = value_characters (geo la lo)
parameter_value (request_status c d x) = value_characters (request_status c d x)

unfoldable pub parameter_json : Parameter → List ℕ
parameter_json p = member_of (lower p.name) (one_or_array (map (λ v. quoted (parameter_value v)) p.values))

unfoldable pub property_json : Property → List ℕ
property_json p =
    array_of (quoted (lower p.name) ∷ object_of (map parameter_json p.parameters) ∷ quoted (lower (type_name (type_of_all p.values))) ∷ map value_json p.values)

-- ---- components (sections 3.2 and 3.3)

unfoldable pub components_json : Components → List (List ℕ)
components_json no_more = []
components_json (component n ps inner next) =
    array_of (quoted (lower n) ∷ array_of (map property_json ps) ∷ array_of (components_json inner) ∷ []) ∷ components_json next

unfoldable pub write_jcal : Components → List ℕ
write_jcal c = one_or_array (components_json c)
