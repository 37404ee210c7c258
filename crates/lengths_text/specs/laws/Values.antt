-- A value's text, by the length of the character data that it is read from: TEXT doubles at most, `0` becomes `FALSE`, a number may have a sign, a zero and a point more, others do not grow.
--     escaped_least, escaped_most    escaped TEXT
--     date_kept, date_time_kept      what is kept of a date, and of a date with its time
--     value_length                   the text of a value of any type
--     parameter_length               and as a parameter's value
use Rattle.std.specs.Prelude.{◌≡◌, refl, Bool, true, false, List, [], ◌∷◌, ℕ, suc, ◌+◌, ◌*◌, ◌≤◌, eqb, length, Option, None, Some, option_map}
use Rattle.std.proofs.Common.{ap, arith}
use Rattle.octets.specs.Ascii.{ascii}
use Rattle.octets.specs.Pick.{pick}
use Rattle.octets.specs.laws.Pick.{pick_either}
use Rattle.octets.specs.laws.Append.{length_both}
use Rattle.octets.specs.Class.{is_space}
use Rattle.octets.specs.Reading.{read_or}
use Rattle.octets.specs.laws.Reading.{none-some}
use Rattle.calendar.specs.Calendar.{ical, xcal, ValueType, BINARY, BOOLEAN, CAL-ADDRESS, DATE, DATE-TIME, DURATION, FLOAT, INTEGER, PERIOD, RECUR, TEXT, TIME, URI, UTC-OFFSET, UNKNOWN}
use Rattle.calendar.specs.Calendar.{Value, binary, boolean, cal_address, date, date_time, duration, float, integer, period_explicit, period_start, recur, text, time, uri, utc_offset, unknown, geo, request_status}
use Rattle.times.specs.Spelling.{with_marks}
use Rattle.times.specs.laws.Spelling.{marks_length}
use Rattle.times.specs.Date.{date_marks, read_date, write_date}
use Rattle.times.specs.laws.Date.{date_exact}
use Rattle.times.specs.Time.{time_marks, read_time, write_time}
use Rattle.times.specs.laws.Time.{time_exact}
use Rattle.times.specs.DateTime.{date_time_marks, read_date_time, write_date_time}
use Rattle.times.specs.laws.DateTime.{date_time_exact}
use Rattle.times.specs.Duration.{read_duration, write_duration}
use Rattle.times.specs.UtcOffset.{minute_marks, second_marks, read_utc_offset, write_utc_offset}
use Rattle.times.specs.laws.UtcOffset.{utc_offset_exact}
use Rattle.numbers.specs.Integer.{read_integer}
use Rattle.numbers.specs.Float.{read_float}
use Rattle.numbers.specs.Boolean.{read_boolean, write_boolean}
use Rattle.texts.specs.Text.{is_escaped, escape_text, write_text}
use Rattle.texts.specs.Uri.{read_uri}
use Rattle.texts.specs.laws.Uri.{uri_kept}
use Rattle.texts.specs.Binary.{without_space, read_binary}
use Rattle.texts.specs.laws.Binary.{binary_kept}
use Rattle.texts.specs.Unknown.{read_unknown}
use Rattle.texts.specs.laws.Unknown.{unknown_kept}
use Rattle.values.specs.ReadValue.{read_value}
use Rattle.values.specs.WriteValue.{write_value}
use Rattle.text.specs.WriteText.{param_chars}
use Rattle.lengths_xml.specs.laws.Times.{duration_kept}
use Rattle.lengths_xml.specs.laws.Numbers.{integer_length, float_length}

-- ---- TEXT

abbrev Between : List ℕ → Type 0
Between l = (1 ≤ length l) × (length l ≤ 2)

escape_length : (b : ℕ) → Between (escape_text b)
escape_length b =
    pick_either Between (eqb b 10) _ _ (omega arith, omega arith)
    (pick_either Between (is_escaped b) (92 ∷ b ∷ []) (b ∷ []) (omega arith, omega arith) (omega arith, omega arith))

pub escaped_most : (s : List ℕ) → length (write_text s) ≤ 2 * length s
unfolding write_text
escaped_most [] = omega arith
escaped_most (b ∷ s) = omega (arith, length_both (escape_text b) (write_text s), (escape_length b).1, escaped_most s)

pub escaped_least : (s : List ℕ) → length s ≤ length (write_text s)
unfolding write_text
escaped_least [] = omega arith
escaped_least (b ∷ s) = omega (arith, length_both (escape_text b) (write_text s), (escape_length b).0, escaped_least s)

-- ---- dates and times: XML has marks more

pub date_kept : (s v : List ℕ) → read_date xcal s ≡ Some v → length v ≤ length s
unfolding write_date
date_kept s v h = omega (arith, ap length (date_exact xcal s v h), marks_length date_marks v)

pub date_time_kept : (s v : List ℕ) → read_date_time xcal s ≡ Some v → length v ≤ length s
unfolding write_date_time
date_time_kept s v h = omega (arith, ap length (date_time_exact s v h), marks_length date_time_marks v)

time_kept : (s v : List ℕ) → read_time xcal s ≡ Some v → length v ≤ length s
unfolding write_time
time_kept s v h = omega (arith, ap length (time_exact s v h), marks_length time_marks v)

offset_marks : (b : Bool) (v : List ℕ) → length v ≤ length (with_marks (pick b minute_marks second_marks) v)
unfolding pick
offset_marks true v = omega (arith, marks_length minute_marks v)
offset_marks false v = omega (arith, marks_length second_marks v)

offset_kept : (s v : List ℕ) → read_utc_offset xcal s ≡ Some v → length v ≤ length s
unfolding write_utc_offset
offset_kept s v h = omega (arith, ap length (utc_offset_exact xcal s v h), offset_marks (eqb (length v) 5) v)

pub duration_length : (s v : List ℕ) → read_duration xcal s ≡ Some v → length v ≤ length s
unfolding read_duration
duration_length s v h = duration_kept s v h

-- ---- others

space_length : (s : List ℕ) → length (without_space s) ≤ length s
unfolding without_space
space_length [] = omega arith
space_length (b ∷ s) = pick_either (λ (l : List ℕ). length l ≤ suc (length s)) (is_space b) (without_space s) (b ∷ without_space s) (omega (arith, space_length s)) (omega (arith, space_length s))

truth_length : (b : Bool) → length (write_boolean ical b) ≤ 5
truth_length b = pick_either (λ (l : List ℕ). length l ≤ 5) b (ascii "TRUE") (ascii "FALSE") (omega arith) (omega arith)

-- ---- a value of any type

abbrev pub Brief : List ℕ → Value → Type 0
Brief s v = length (write_value v) ≤ 2 * length s + 5

mapped : {A : Type 0} (s : List ℕ) (g : A → Value) (o : Option A) (v : Value) → ((a : A) → o ≡ Some a → Brief s (g a)) → option_map g o ≡ Some v → Brief s v
mapped s g None v f h = none-some h
mapped s g (Some a) v f h = let q : g a ≡ v = cc in rw (← q) (f a refl)

pub value_length : (t : ValueType) (s : List ℕ) (v : Value) → read_value xcal t s ≡ Some v → Brief s v
unfolding read_value write_value write_date write_date_time write_duration write_time write_utc_offset
value_length BINARY s v = mapped s binary (read_binary xcal s) v (λ a e. omega (arith, ap length (binary_kept xcal s a e), space_length s))
value_length BOOLEAN s v = mapped s boolean (read_boolean xcal s) v (λ b e. omega (arith, truth_length b))
value_length CAL-ADDRESS s v = mapped s cal_address (read_uri s) v (λ a e. omega (arith, ap length (uri_kept s a e)))
value_length DATE s v = mapped s date (read_date xcal s) v (λ a e. omega (arith, date_kept s a e))
value_length DATE-TIME s v = mapped s date_time (read_date_time xcal s) v (λ a e. omega (arith, date_time_kept s a e))
value_length DURATION s v = mapped s duration (read_duration xcal s) v (λ a e. omega (arith, duration_length s a e))
value_length FLOAT s v = mapped s float (read_float s) v (λ d e. omega (arith, float_length s d e))
value_length INTEGER s v = mapped s integer (read_integer s) v (λ w e. omega (arith, integer_length s w e))
value_length PERIOD s v = λ h. none-some h
value_length RECUR s v = λ h. none-some h
value_length TEXT s v = mapped s text (Some s) v (λ a e. let q : s ≡ a = cc in rw (← q) (omega (arith, escaped_most s)))
value_length TIME s v = mapped s time (read_time xcal s) v (λ a e. omega (arith, time_kept s a e))
value_length URI s v = mapped s uri (read_uri s) v (λ a e. omega (arith, ap length (uri_kept s a e)))
value_length UTC-OFFSET s v = mapped s utc_offset (read_utc_offset xcal s) v (λ a e. omega (arith, offset_kept s a e))
value_length UNKNOWN s v = mapped s unknown (read_unknown s) v (λ a e. omega (arith, ap length (unknown_kept s a e)))

-- a parameter's value has no escapes
pub parameter_length : (v : Value) → length (param_chars v) ≤ length (write_value v)
unfolding read_or write_value
parameter_length (binary s) = omega arith
parameter_length (boolean b) = omega arith
parameter_length (cal_address s) = omega arith
parameter_length (date s) = omega arith
parameter_length (date_time s) = omega arith
parameter_length (duration s) = omega arith
parameter_length (float d) = omega arith
parameter_length (integer w) = omega arith
parameter_length (period_explicit s e) = omega arith
parameter_length (period_start s d) = omega arith
parameter_length (recur ps) = omega arith
parameter_length (text s) = escaped_least s
parameter_length (time s) = omega arith
parameter_length (uri s) = omega arith
parameter_length (utc_offset s) = omega arith
parameter_length (unknown s) = omega arith
parameter_length (geo la lo) = omega arith
parameter_length (request_status c d x) = omega arith
