-- The characters that values are written in: nearly all show, and a type leaves only few of them free.
--     free_in          the characters that a value's type leaves free: TEXT's, and raw ones
--     is_value_text    a value whose free characters both formats can have: no CR
use Rattle.std.specs.Prelude.{Bool, List, [], ◌∷◌, ℕ}
use Rattle.octets.specs.Words.{none_holds}
use Rattle.calendar.specs.Calendar.{Value, binary, boolean, cal_address, date, date_time, duration, float, integer, period_explicit, period_start, recur, text, time, uri, utc_offset, unknown, geo, request_status}
use Rattle.texts.specs.RequestStatus.{status_parts}

abbrev pub free_in : Value → List (List ℕ)
free_in (binary s) = []
free_in (boolean b) = []
free_in (cal_address s) = []
free_in (date s) = []
free_in (date_time s) = []
free_in (duration s) = []
free_in (float d) = []
free_in (integer w) = []
free_in (period_explicit s e) = []
free_in (period_start s d) = []
free_in (recur r) = []
free_in (text s) = s ∷ []
free_in (time s) = []
free_in (uri s) = []
free_in (utc_offset s) = []
free_in (unknown s) = s ∷ []
free_in (geo la lo) = []
free_in (request_status c d x) = status_parts c d x

-- 13 is CR
abbrev pub is_value_text : Value → Bool
is_value_text v = none_holds 13 (free_in v)
