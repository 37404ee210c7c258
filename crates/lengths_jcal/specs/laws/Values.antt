-- The jCal of a value, of any type, and a comma: no more than `rate` bytes for each byte of its text, and one byte more.
--     value_length    a value
--     each_length     the values of pieces of a text
use Rattle.std.specs.Prelude.{◌≡◌, refl, Bool, true, false, List, [], ◌∷◌, map, ℕ, suc, ◌+◌, ◌*◌, ◌≤◌, length, take, drop, Option, None, Some, option_map}
use Rattle.std.proofs.Common.{ap, arith, length-take, length-drop}
use Rattle.octets.specs.Pick.{pick}
use Rattle.octets.specs.Class.{upper}
use Rattle.octets.specs.laws.Letters.{upper-length}
use Rattle.octets.specs.Reading.{and_then, read_each, cons_read}
use Rattle.octets.specs.laws.Reading.{none-some, and_then-some, cons_read-some}
use Rattle.calendar.specs.Calendar.{ical, xcal, ValueType, BINARY, BOOLEAN, CAL-ADDRESS, DATE, DATE-TIME, DURATION, FLOAT, INTEGER, PERIOD, RECUR, TEXT, TIME, URI, UTC-OFFSET, UNKNOWN, RulePart, Value, binary, boolean, cal_address, date, date_time, duration, float, integer, period_explicit, period_start, recur, text, time, uri, utc_offset, unknown}
use Rattle.times.specs.Date.{read_date}
use Rattle.times.specs.Time.{read_time}
use Rattle.times.specs.DateTime.{is_date_time, read_date_time, write_date_time}
use Rattle.times.specs.Duration.{read_duration, write_duration}
use Rattle.times.specs.UtcOffset.{read_utc_offset}
use Rattle.times.specs.Period.{slash_at, period_from, read_period}
use Rattle.numbers.specs.Integer.{read_integer}
use Rattle.numbers.specs.Float.{read_float}
use Rattle.numbers.specs.Boolean.{read_boolean}
use Rattle.texts.specs.Text.{read_text}
use Rattle.texts.specs.Uri.{read_uri}
use Rattle.texts.specs.laws.Uri.{uri_kept}
use Rattle.texts.specs.Binary.{read_binary}
use Rattle.texts.specs.laws.Binary.{binary_kept}
use Rattle.texts.specs.Unknown.{read_unknown}
use Rattle.texts.specs.laws.Unknown.{unknown_kept}
use Rattle.recur.specs.Rule.{read_rule}
use Rattle.values.specs.ReadValue.{read_value}
use Rattle.values.specs.WriteValue.{value_characters}
use Rattle.json_text.specs.Write.{quoted, array_of}
use Rattle.jcal.specs.WriteJcal.{part_json, value_json}
use Rattle.lengths_xml.specs.laws.Elements.{rate}
use Rattle.lengths_xml.specs.laws.Pieces.{weight}
use Rattle.lengths_xml.specs.laws.Times.{date_time_kept, date_time_some, date_time_written, date_length, date_time_length, time_length, duration_length, offset_length}
use Rattle.lengths_xml.specs.laws.Numbers.{integer_length, truth_length, float_length}
use Rattle.lengths_xml.specs.laws.Texts.{text_length}
use Rattle.lengths_jcal.specs.laws.Strings.{quoted_length, array_length, object_length}
use Rattle.lengths_jcal.specs.laws.Rules.{rule_length}

-- the jCal of a value, whose text is s, and a comma are within the bound
abbrev pub Short : List ℕ → Value → Type 0
Short s v = length (value_json v) + 1 ≤ rate * suc (length s)

-- ---- strings

string_length : (s a : List ℕ) → length a ≤ length s + 4 → length (quoted a) + 1 ≤ rate * suc (length s)
string_length s a h = omega (arith, quoted_length a)

pub kept_length : (s v : List ℕ) → length v ≤ length s → Short s (text v)
unfolding value_json value_characters
kept_length s v h = string_length s v (omega arith)

-- ---- a period

two_length : (s a z : List ℕ) → 15 ≤ length s → length a ≤ length s + 4 → length z ≤ length s + 4 → length (array_of (quoted a ∷ quoted z ∷ [])) + 1 ≤ rate * suc (length s)
unfolding weight
two_length s a z l h k = omega (arith, array_length (quoted a ∷ quoted z ∷ []), quoted_length a, quoted_length z)

from_length : (s a r : List ℕ) (v : Value) → 15 ≤ length s → length a ≤ length s → length r ≤ length s → period_from a r ≡ Some v → Short s v
unfolding period_from pick value_json
from_length s a r v l h k e = go (is_date_time (upper r)) e
  where
    go : (t : Bool) → pick t (Some (period_explicit a (upper r))) (and_then (read_duration ical r) (λ d. Some (period_start a d))) ≡ Some v → Short s v
    go true e =
        let q : period_explicit a (upper r) ≡ v = cc in
        rw (← q) (two_length s (write_date_time xcal a) (write_date_time xcal (upper r)) l (omega (arith, date_time_written a)) (omega (arith, date_time_written (upper r), upper-length r)))
    go false e =
        let p = and_then-some (read_duration ical r) (λ d. Some (period_start a d)) v e in
        let q : period_start a p.0 ≡ v = cc p.2 in
        rw (← q) (two_length s (write_date_time xcal a) (write_duration xcal p.0) l (omega (arith, date_time_written a)) (omega (arith, duration_length r p.0 p.1)))

period_length : (s : List ℕ) (v : Value) → read_period s ≡ Some v → Short s v
unfolding read_period
period_length s v h =
    let r : List ℕ = drop 1 (drop (slash_at s) s) in
    let q = and_then-some (read_date_time ical (take (slash_at s) s)) (λ start. period_from start r) v h in
    let start : length q.0 ≤ length s = omega (arith, date_time_kept (take (slash_at s) s) q.0 q.1, length-take (slash_at s) s) in
    let least : 15 ≤ length s = omega (arith, date_time_some (take (slash_at s) s) q.0 q.1, length-take (slash_at s) s) in
    let after : length r ≤ length s = omega (arith, length-drop 1 (drop (slash_at s) s), length-drop (slash_at s) s) in
    from_length s q.0 r v least start after q.2

-- ---- a rule

recur_length : (s : List ℕ) → (o : Option (List RulePart)) → read_rule s ≡ o → (v : Value) → option_map recur o ≡ Some v → Short s v
unfolding value_json
recur_length s None e v h = none-some h
recur_length s (Some ps) e v h =
    let q : recur ps ≡ v = cc in
    rw (← q) (omega (arith, object_length (map part_json ps), rule_length s ps e))

-- ---- a value of any type

mapped : {A : Type 0} (s : List ℕ) (g : A → Value) (o : Option A) (v : Value) → ((a : A) → o ≡ Some a → Short s (g a)) → option_map g o ≡ Some v → Short s v
mapped s g None v f h = none-some h
mapped s g (Some a) v f h = let q : g a ≡ v = cc in rw (← q) (f a refl)

pub value_length : (t : ValueType) (s : List ℕ) (v : Value) → read_value ical t s ≡ Some v → Short s v
unfolding read_value value_json value_characters
value_length BINARY s v = mapped s binary (read_binary ical s) v (λ a e. string_length s _ (omega (arith, ap length (binary_kept ical s a e))))
value_length BOOLEAN s v = mapped s boolean (read_boolean ical s) v (λ b e. omega (arith, truth_length b))
value_length CAL-ADDRESS s v = mapped s cal_address (read_uri s) v (λ a e. string_length s _ (omega (arith, ap length (uri_kept s a e))))
value_length DATE s v = mapped s date (read_date ical s) v (λ a e. string_length s _ (date_length s a e))
value_length DATE-TIME s v = mapped s date_time (read_date_time ical s) v (λ a e. string_length s _ (date_time_length s a e))
value_length DURATION s v = mapped s duration (read_duration ical s) v (λ a e. string_length s _ (omega (arith, duration_length s a e)))
value_length FLOAT s v = mapped s float (read_float s) v (λ d e. omega (arith, float_length s d e))
value_length INTEGER s v = mapped s integer (read_integer s) v (λ w e. omega (arith, integer_length s w e))
value_length PERIOD s v = period_length s v
value_length RECUR s v = recur_length s (read_rule s) refl v
value_length TEXT s v = mapped s text (read_text s) v (λ a e. kept_length s a (text_length s a e))
value_length TIME s v = mapped s time (read_time ical s) v (λ a e. string_length s _ (time_length s a e))
value_length URI s v = mapped s uri (read_uri s) v (λ a e. string_length s _ (omega (arith, ap length (uri_kept s a e))))
value_length UTC-OFFSET s v = mapped s utc_offset (read_utc_offset ical s) v (λ a e. string_length s _ (offset_length s a e))
value_length UNKNOWN s v = mapped s unknown (read_unknown s) v (λ a e. string_length s _ (omega (arith, ap length (unknown_kept s a e))))

-- ---- each of a list, where what it is read from has some text

pub each_length : {A : Type 0} (reading : A → Option Value) (writing : Value → List ℕ) (spelling : A → List ℕ) →
    ((a : A) (v : Value) → reading a ≡ Some v → length (writing v) + 1 ≤ rate * suc (length (spelling a))) →
    (l : List A) (vs : List Value) → read_each reading l ≡ Some vs → weight (map writing vs) ≤ rate * weight (map spelling l)
unfolding read_each weight
each_length reading writing spelling f [] vs h = let q : [] ≡ vs = cc in rw (← q) (omega arith)
each_length reading writing spelling f (a ∷ l) vs h =
    let e = and_then-some (reading a) (λ b. cons_read b (read_each reading l)) vs h in
    let g = cons_read-some e.0 (read_each reading l) vs e.2 in
    rw (← g.2) (omega (arith, f a e.0 e.1, each_length reading writing spelling f l g.0 g.1))
