-- A value written to iCalendar text (RFC 5545, section 3.3) and as the character data of its XML element (RFC 6321, section 3.6).
--     write_value     a value in iCalendar text
--     write_values    the values of a property, with commas between them
--     type_of_all     the type of the values of a property, which all have that of the first
--     value_characters the character data of a value's XML element, before its characters are escaped; a value that is made of elements has none
use Rattle.std.specs.Prelude.{List, [], ◌∷◌, map, ℕ}
use Rattle.octets.specs.Words.{joined_by}
use Rattle.calendar.specs.Calendar.{ical, xcal, Value, binary, boolean, cal_address, date, date_time, duration, float, integer, period_explicit, period_start, recur, text, time, uri, utc_offset, unknown, geo, request_status, ValueType, UNKNOWN, type_of}
use Rattle.times.specs.Date.{write_date}
use Rattle.times.specs.Time.{write_time}
use Rattle.times.specs.DateTime.{write_date_time}
use Rattle.times.specs.Duration.{write_duration}
use Rattle.times.specs.UtcOffset.{write_utc_offset}
use Rattle.times.specs.Period.{write_period}
use Rattle.numbers.specs.Integer.{write_integer}
use Rattle.numbers.specs.Float.{write_float}
use Rattle.numbers.specs.Boolean.{write_boolean}
use Rattle.numbers.specs.Geo.{write_geo}
use Rattle.texts.specs.Text.{write_text}
use Rattle.texts.specs.RequestStatus.{write_request_status}
use Rattle.recur.specs.Rule.{write_rule}

unfoldable pub write_value : Value → List ℕ
write_value (binary s) = s
write_value (boolean b) = write_boolean ical b
write_value (cal_address s) = s
write_value (date s) = write_date ical s
write_value (date_time s) = write_date_time ical s
write_value (duration s) = write_duration ical s
write_value (float d) = write_float d
write_value (integer w) = write_integer w
write_value (period_explicit s e) = write_period s e
write_value (period_start s d) = write_period s d
write_value (recur r) = write_rule r
write_value (text s) = write_text s
write_value (time s) = write_time ical s
write_value (uri s) = s
write_value (utc_offset s) = write_utc_offset ical s
write_value (unknown s) = s
write_value (geo la lo) = write_geo la lo
write_value (request_status c d x) = write_request_status c d x

-- 44 is the comma
unfoldable pub write_values : List Value → List ℕ
write_values vs = joined_by 44 (map write_value vs)

abbrev pub type_of_all : List Value → ValueType
type_of_all [] = UNKNOWN
type_of_all (v ∷ vs) = type_of v

unfoldable pub value_characters : Value → List ℕ
value_characters (binary s) = s
value_characters (boolean b) = write_boolean xcal b
value_characters (cal_address s) = s
value_characters (date s) = write_date xcal s
value_characters (date_time s) = write_date_time xcal s
value_characters (duration s) = write_duration xcal s
value_characters (float d) = write_float d
value_characters (integer w) = write_integer w
value_characters (period_explicit s e) = []
value_characters (period_start s d) = []
value_characters (recur r) = []
value_characters (text s) = s
value_characters (time s) = write_time xcal s
value_characters (uri s) = s
value_characters (utc_offset s) = write_utc_offset xcal s
value_characters (unknown s) = s
value_characters (geo la lo) = []
value_characters (request_status c d x) = []
