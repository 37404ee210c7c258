-- Laws of what specs/ReadBack.antt defines.
--     is_character_data  whether it is character data in XML, and not made of elements
--     value_read_back, characters_read_back, value_accepted
use Rattle.std.specs.Prelude.{◌≡◌, refl, Bool, true, false, List, ℕ, Option, None, Some, option_map}
use Rattle.std.proofs.lemmas.Bool.{false≢true}
use Rattle.octets.specs.laws.Pick.{and_yes, and_both}
use Rattle.octets.specs.laws.Reading.{none-some}
use Rattle.calendar.specs.Calendar.{Format, ical, xcal, ValueType, BINARY, BOOLEAN, CAL-ADDRESS, DATE, DATE-TIME, DURATION, FLOAT, INTEGER, PERIOD, RECUR, TEXT, TIME, URI, UTC-OFFSET, UNKNOWN}
use Rattle.calendar.specs.Calendar.{Value, binary, boolean, cal_address, date, date_time, duration, float, integer, period_explicit, period_start, recur, text, time, uri, utc_offset, unknown, geo, request_status, type_of}
use Rattle.times.specs.Date.{read_date}
use Rattle.times.specs.laws.Date.{date_read_back, date_accepted}
use Rattle.times.specs.Time.{read_time}
use Rattle.times.specs.laws.Time.{time_read_back, time_accepted}
use Rattle.times.specs.DateTime.{read_date_time}
use Rattle.times.specs.laws.DateTime.{date_time_read_back, date_time_accepted}
use Rattle.times.specs.Duration.{read_duration}
use Rattle.times.specs.laws.Duration.{duration_read_back, duration_accepted}
use Rattle.times.specs.UtcOffset.{read_utc_offset}
use Rattle.times.specs.laws.UtcOffset.{utc_offset_read_back, utc_offset_accepted}
use Rattle.times.specs.laws.Period.{period_explicit_read_back, period_start_read_back, period_accepted}
use Rattle.numbers.specs.Integer.{read_integer}
use Rattle.numbers.specs.laws.Integer.{integer_read_back, integer_accepted}
use Rattle.numbers.specs.Float.{read_float}
use Rattle.numbers.specs.laws.FloatLaws.{float_read_back, float_accepted}
use Rattle.numbers.specs.Boolean.{read_boolean}
use Rattle.numbers.specs.laws.Boolean.{boolean_read_back}
use Rattle.texts.specs.laws.Text.{text_read_back}
use Rattle.texts.specs.Uri.{read_uri}
use Rattle.texts.specs.laws.Uri.{uri_read_back, uri_accepted}
use Rattle.texts.specs.Binary.{read_binary}
use Rattle.texts.specs.laws.Binary.{binary_read_back, binary_accepted}
use Rattle.texts.specs.Unknown.{read_unknown}
use Rattle.texts.specs.laws.Unknown.{unknown_read_back, unknown_accepted}
use Rattle.recur.specs.Rule.{read_rule}
use Rattle.recur.specs.laws.RuleLaws.{rule_read_back, rule_accepted}
use Rattle.values.specs.ReadValue.{read_value, read_text_as}
use Rattle.values.specs.WriteValue.{write_value, value_characters}
use Rattle.values.specs.ReadBack.{is_value, is_typed}

abbrev pub is_character_data : Value → Bool
is_character_data (binary s) = true
is_character_data (boolean b) = true
is_character_data (cal_address s) = true
is_character_data (date s) = true
is_character_data (date_time s) = true
is_character_data (duration s) = true
is_character_data (float d) = true
is_character_data (integer w) = true
is_character_data (period_explicit s e) = false
is_character_data (period_start s d) = false
is_character_data (recur r) = false
is_character_data (text s) = true
is_character_data (time s) = true
is_character_data (uri s) = true
is_character_data (utc_offset s) = true
is_character_data (unknown s) = true
is_character_data (geo la lo) = false
is_character_data (request_status c d x) = false

-- ---- what is written is read back

pub value_read_back : (v : Value) → is_typed v ≡ true → is_value v ≡ true → read_value ical (type_of v) (write_value v) ≡ Some v
unfolding read_value write_value
value_read_back (binary s) t h = rw (binary_read_back ical s h)
value_read_back (boolean b) t h = rw (boolean_read_back ical b)
value_read_back (cal_address s) t h = rw (uri_read_back s h)
value_read_back (date s) t h = rw (date_read_back ical s h)
value_read_back (date_time s) t h = rw (date_time_read_back ical s h)
value_read_back (duration s) t h = rw (duration_read_back ical s h)
value_read_back (float d) t h = rw (float_read_back d h)
value_read_back (integer w) t h = rw (integer_read_back w h)
value_read_back (period_explicit s e) t h = let p = and_both _ _ h in period_explicit_read_back s e p.0 p.1
value_read_back (period_start s d) t h = let p = and_both _ _ h in period_start_read_back s d p.0 p.1
value_read_back (recur r) t h = rw (rule_read_back r h)
value_read_back (text s) t h = rw (text_read_back s)
value_read_back (time s) t h = rw (time_read_back ical s h)
value_read_back (uri s) t h = rw (uri_read_back s h)
value_read_back (utc_offset s) t h = rw (utc_offset_read_back ical s h)
value_read_back (unknown s) t h = rw (unknown_read_back s h)
value_read_back (geo la lo) t h = absurd (false≢true t)
value_read_back (request_status c d x) t h = absurd (false≢true t)

pub characters_read_back : (v : Value) → is_character_data v ≡ true → is_value v ≡ true → read_value xcal (type_of v) (value_characters v) ≡ Some v
unfolding read_value value_characters
characters_read_back (binary s) t h = rw (binary_read_back xcal s h)
characters_read_back (boolean b) t h = rw (boolean_read_back xcal b)
characters_read_back (cal_address s) t h = rw (uri_read_back s h)
characters_read_back (date s) t h = rw (date_read_back xcal s h)
characters_read_back (date_time s) t h = rw (date_time_read_back xcal s h)
characters_read_back (duration s) t h = rw (duration_read_back xcal s h)
characters_read_back (float d) t h = rw (float_read_back d h)
characters_read_back (integer w) t h = rw (integer_read_back w h)
characters_read_back (period_explicit s e) t h = absurd (false≢true t)
characters_read_back (period_start s d) t h = absurd (false≢true t)
characters_read_back (recur r) t h = absurd (false≢true t)
characters_read_back (text s) t h = refl
characters_read_back (time s) t h = rw (time_read_back xcal s h)
characters_read_back (uri s) t h = rw (uri_read_back s h)
characters_read_back (utc_offset s) t h = rw (utc_offset_read_back xcal s h)
characters_read_back (unknown s) t h = rw (unknown_read_back s h)
characters_read_back (geo la lo) t h = absurd (false≢true t)
characters_read_back (request_status c d x) t h = absurd (false≢true t)

-- ---- what is read is a value of the type asked for

abbrev pub IsOfType : ValueType → Value → Type 0
IsOfType t v = (is_value v ≡ true) × (is_typed v ≡ true) × (type_of v ≡ t)

-- a value made of what was read: what holds of each such value holds of it
pub made : {A : Type 0} (P : Value → Type 0) (g : A → Value) (o : Option A) (v : Value) → option_map g o ≡ Some v → ((a : A) → o ≡ Some a → P (g a)) → P v
made P g None v h k = none-some h
made P g (Some a) v h k = let q : g a ≡ v = cc in rw (← q) (k a refl)

pub value_accepted : (f : Format) (t : ValueType) (s : List ℕ) (v : Value) → read_value f t s ≡ Some v → IsOfType t v
unfolding read_value
value_accepted f BINARY s v h = made (IsOfType BINARY) binary (read_binary f s) v h (λ a e. (binary_accepted f s a e, refl, refl))
value_accepted f BOOLEAN s v h = made (IsOfType BOOLEAN) boolean (read_boolean f s) v h (λ a e. (refl, refl, refl))
value_accepted f CAL-ADDRESS s v h = made (IsOfType CAL-ADDRESS) cal_address (read_uri s) v h (λ a e. (uri_accepted s a e, refl, refl))
value_accepted f DATE s v h = made (IsOfType DATE) date (read_date f s) v h (λ a e. (date_accepted f s a e, refl, refl))
value_accepted f DATE-TIME s v h = made (IsOfType DATE-TIME) date_time (read_date_time f s) v h (λ a e. (date_time_accepted f s a e, refl, refl))
value_accepted f DURATION s v h = made (IsOfType DURATION) duration (read_duration f s) v h (λ a e. (duration_accepted f s a e, refl, refl))
value_accepted f FLOAT s v h = made (IsOfType FLOAT) float (read_float s) v h (λ a e. (float_accepted s a e, refl, refl))
value_accepted f INTEGER s v h = made (IsOfType INTEGER) integer (read_integer s) v h (λ a e. (integer_accepted s a e, refl, refl))
value_accepted ical PERIOD s v h =
    period_accepted (IsOfType PERIOD) (λ b e p q. (and_yes _ _ p q, refl, refl)) (λ b d p q. (and_yes _ _ p q, refl, refl)) s v h
value_accepted xcal PERIOD s v h = none-some h
value_accepted ical RECUR s v h = made (IsOfType RECUR) recur (read_rule s) v h (λ a e. (rule_accepted s a e, refl, refl))
value_accepted xcal RECUR s v h = none-some h
value_accepted f TEXT s v h = made (IsOfType TEXT) text (read_text_as f s) v h (λ a e. (refl, refl, refl))
value_accepted f TIME s v h = made (IsOfType TIME) time (read_time f s) v h (λ a e. (time_accepted f s a e, refl, refl))
value_accepted f URI s v h = made (IsOfType URI) uri (read_uri s) v h (λ a e. (uri_accepted s a e, refl, refl))
value_accepted f UTC-OFFSET s v h = made (IsOfType UTC-OFFSET) utc_offset (read_utc_offset f s) v h (λ a e. (utc_offset_accepted f s a e, refl, refl))
value_accepted f UNKNOWN s v h = made (IsOfType UNKNOWN) unknown (read_unknown s) v h (λ a e. (unknown_accepted s a e, refl, refl))
