-- One value of a given type, read from iCalendar text (RFC 5545, section 3.3) and from the character data of its XML element (RFC 6321, section 3.6).
--     read_value ical t s   the value of type t that the text s spells
--     read_value xcal t s   the same from character data; PERIOD and RECUR are made of elements there, and have none
use Rattle.std.specs.Prelude.{List, ℕ, Option, None, Some, option_map}
use Rattle.calendar.specs.Calendar.{Format, ical, xcal, ValueType, BINARY, BOOLEAN, CAL-ADDRESS, DATE, DATE-TIME, DURATION, FLOAT, INTEGER, PERIOD, RECUR, TEXT, TIME, URI, UTC-OFFSET, UNKNOWN, Value, binary, boolean, cal_address, date, date_time, duration, float, integer, recur, text, time, uri, utc_offset, unknown}
use Rattle.times.specs.Date.{read_date}
use Rattle.times.specs.Time.{read_time}
use Rattle.times.specs.DateTime.{read_date_time}
use Rattle.times.specs.Duration.{read_duration}
use Rattle.times.specs.UtcOffset.{read_utc_offset}
use Rattle.times.specs.Period.{read_period}
use Rattle.numbers.specs.Integer.{read_integer}
use Rattle.numbers.specs.Float.{read_float}
use Rattle.numbers.specs.Boolean.{read_boolean}
use Rattle.texts.specs.Text.{read_text}
use Rattle.texts.specs.Uri.{read_uri}
use Rattle.texts.specs.Binary.{read_binary}
use Rattle.texts.specs.Unknown.{read_unknown}
use Rattle.recur.specs.Rule.{read_rule}

-- TEXT has escapes in iCalendar text, and none in XML
abbrev pub read_text_as : Format → List ℕ → Option (List ℕ)
read_text_as ical s = read_text s
read_text_as xcal s = Some s

abbrev pub read_period_as : Format → List ℕ → Option Value
read_period_as ical s = read_period s
read_period_as xcal s = None

abbrev pub read_recur_as : Format → List ℕ → Option Value
read_recur_as ical s = option_map recur (read_rule s)
read_recur_as xcal s = None

unfoldable pub read_value : Format → ValueType → List ℕ → Option Value
read_value f BINARY s = option_map binary (read_binary f s)
read_value f BOOLEAN s = option_map boolean (read_boolean f s)
read_value f CAL-ADDRESS s = option_map cal_address (read_uri s)
read_value f DATE s = option_map date (read_date f s)
read_value f DATE-TIME s = option_map date_time (read_date_time f s)
read_value f DURATION s = option_map duration (read_duration f s)
read_value f FLOAT s = option_map float (read_float s)
read_value f INTEGER s = option_map integer (read_integer s)
read_value f PERIOD s = read_period_as f s
read_value f RECUR s = read_recur_as f s
read_value f TEXT s = option_map text (read_text_as f s)
read_value f TIME s = option_map time (read_time f s)
read_value f URI s = option_map uri (read_uri s)
read_value f UTC-OFFSET s = option_map utc_offset (read_utc_offset f s)
read_value f UNKNOWN s = option_map unknown (read_unknown s)
