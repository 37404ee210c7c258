-- What a kept value is, and that a value which is written is read back, from iCalendar text and from XML character data.
--     is_value           whether a value is one that its type has: as it is kept
--     is_typed           whether it is spelled as its type says: all but GEO's and REQUEST-STATUS's, which have spellings of their own
use Rattle.std.specs.Prelude.{Bool, true, false}
use Rattle.octets.specs.Pick.{◌and◌}
use Rattle.calendar.specs.Calendar.{Value, binary, boolean, cal_address, date, date_time, duration, float, integer, period_explicit, period_start, recur, text, time, uri, utc_offset, unknown, geo, request_status}
use Rattle.times.specs.Date.{is_date}
use Rattle.times.specs.Time.{is_time}
use Rattle.times.specs.DateTime.{is_date_time}
use Rattle.times.specs.Duration.{is_duration}
use Rattle.times.specs.UtcOffset.{is_utc_offset}
use Rattle.numbers.specs.Integer.{is_integer}
use Rattle.numbers.specs.Float.{is_normal}
use Rattle.texts.specs.Uri.{is_uri}
use Rattle.texts.specs.Binary.{is_binary}
use Rattle.texts.specs.Unknown.{is_unknown}
use Rattle.recur.specs.Rule.{is_rule}

abbrev pub is_value : Value → Bool
is_value (binary s) = is_binary s
is_value (boolean b) = true
is_value (cal_address s) = is_uri s
is_value (date s) = is_date s
is_value (date_time s) = is_date_time s
is_value (duration s) = is_duration s
is_value (float d) = is_normal d
is_value (integer w) = is_integer w
is_value (period_explicit s e) = is_date_time s and is_date_time e
is_value (period_start s d) = is_date_time s and is_duration d
is_value (recur r) = is_rule r
is_value (text s) = true
is_value (time s) = is_time s
is_value (uri s) = is_uri s
is_value (utc_offset s) = is_utc_offset s
is_value (unknown s) = is_unknown s
is_value (geo la lo) = is_normal la and is_normal lo
is_value (request_status c d x) = true

abbrev pub is_typed : Value → Bool
is_typed (binary s) = true
is_typed (boolean b) = true
is_typed (cal_address s) = true
is_typed (date s) = true
is_typed (date_time s) = true
is_typed (duration s) = true
is_typed (float d) = true
is_typed (integer w) = true
is_typed (period_explicit s e) = true
is_typed (period_start s d) = true
is_typed (recur r) = true
is_typed (text s) = true
is_typed (time s) = true
is_typed (uri s) = true
is_typed (utc_offset s) = true
is_typed (unknown s) = true
is_typed (geo la lo) = false
is_typed (request_status c d x) = false
