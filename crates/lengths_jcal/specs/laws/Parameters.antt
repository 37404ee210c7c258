-- The jCal of parameters, by the length of their text in a content line.
--     parameters_length    the parameters that are read, each with a comma
use Rattle.std.specs.Prelude.{◌≡◌, refl, Bool, true, false, not, List, [], ◌∷◌, map, ℕ, suc, ◌+◌, ◌*◌, ◌≤◌, length, Option, None, Some, option_map}
use Rattle.std.proofs.Common.{ap, arith}
use Rattle.octets.specs.Pick.{pick, ◌and◌, ◌or◌}
use Rattle.octets.specs.Append.{◌⊕◌, joined}
use Rattle.octets.specs.laws.Append.{length_both}
use Rattle.octets.specs.Class.{upper, lower}
use Rattle.octets.specs.laws.Letters.{upper-length, lower-length}
use Rattle.octets.specs.Words.{is_one_of, joined_by}
use Rattle.octets.specs.Reading.{read_each, cons_read}
use Rattle.octets.specs.laws.Reading.{none-some, and_then-some, cons_read-some, provided-some}
use Rattle.calendar.specs.Calendar.{ical, ValueType, BINARY, BOOLEAN, CAL-ADDRESS, DATE, DATE-TIME, DURATION, FLOAT, INTEGER, PERIOD, RECUR, TEXT, TIME, URI, UTC-OFFSET, UNKNOWN, Value, binary, boolean, cal_address, date, date_time, duration, float, integer, recur, text, time, uri, utc_offset, unknown, Parameter}
use Rattle.schema.specs.Types.{same_type}
use Rattle.schema.specs.Parameters.{parameter_type, is_listed_parameter, parameter_words, is_quoted_parameter}
use Rattle.times.specs.Date.{read_date}
use Rattle.times.specs.Time.{read_time}
use Rattle.times.specs.DateTime.{read_date_time}
use Rattle.times.specs.Duration.{read_duration}
use Rattle.times.specs.UtcOffset.{read_utc_offset}
use Rattle.times.specs.laws.Period.{period_accepted}
use Rattle.numbers.specs.Integer.{read_integer}
use Rattle.numbers.specs.Float.{read_float}
use Rattle.numbers.specs.Boolean.{read_boolean, write_boolean}
use Rattle.texts.specs.Text.{read_text}
use Rattle.texts.specs.Uri.{read_uri}
use Rattle.texts.specs.laws.Uri.{uri_kept}
use Rattle.texts.specs.Binary.{read_binary}
use Rattle.texts.specs.laws.Binary.{binary_kept}
use Rattle.texts.specs.Unknown.{read_unknown}
use Rattle.texts.specs.laws.Unknown.{unknown_kept}
use Rattle.recur.specs.Rule.{read_rule}
use Rattle.values.specs.ReadValue.{read_value}
use Rattle.values.specs.WriteValue.{value_characters}
use Rattle.read_text_line.specs.ContentLine.{ParamValue, RawParameter}
use Rattle.read_text_line.specs.Write.{write_param_value, write_parameter}
use Rattle.text.specs.Parameters.{read_typed, read_word, read_param_value, is_single, read_parameter, own_parameters, read_parameters}
use Rattle.json_text.specs.Write.{quoted}
use Rattle.jcal.specs.WriteJcal.{one_or_array, parameter_value, parameter_json}
use Rattle.lengths_xml.specs.laws.Elements.{rate}
use Rattle.lengths_xml.specs.laws.Pieces.{weight, joined_weight}
use Rattle.lengths_xml.specs.laws.Times.{date_length, date_time_length, time_length, duration_length, offset_length}
use Rattle.lengths_xml.specs.laws.Numbers.{integer_length, float_length}
use Rattle.lengths_xml.specs.laws.Texts.{text_length}
use Rattle.lengths_xml.specs.laws.Parameters.{bytes, own_bytes}
use Rattle.lengths_xml.specs.laws.Parameters as chars
use Rattle.lengths_jcal.specs.laws.Strings.{quoted_length, one_length, member_length}
use Rattle.lengths_jcal.specs.laws.Values.{each_length}

-- ---- the characters of a value

abbrev Near : List ℕ → Value → Type 0
Near s v = length (parameter_value v) ≤ length s + 5

mapped : {A : Type 0} (s : List ℕ) (g : A → Value) (o : Option A) (v : Value) → ((a : A) → o ≡ Some a → Near s (g a)) → option_map g o ≡ Some v → Near s v
mapped s g None v f h = none-some h
mapped s g (Some a) v f h = let q : g a ≡ v = cc in rw (← q) (f a refl)

truth_length : (b : Bool) → length (write_boolean ical b) ≤ 5
unfolding pick
truth_length true = omega arith
truth_length false = omega arith

value_near : (t : ValueType) (s : List ℕ) (v : Value) → read_value ical t s ≡ Some v → Near s v
unfolding read_value parameter_value value_characters
value_near BINARY s v = mapped s binary (read_binary ical s) v (λ a e. omega (arith, ap length (binary_kept ical s a e)))
value_near BOOLEAN s v = mapped s boolean (read_boolean ical s) v (λ b e. omega (arith, truth_length b))
value_near CAL-ADDRESS s v = mapped s cal_address (read_uri s) v (λ a e. omega (arith, ap length (uri_kept s a e)))
value_near DATE s v = mapped s date (read_date ical s) v (λ a e. omega (arith, date_length s a e))
value_near DATE-TIME s v = mapped s date_time (read_date_time ical s) v (λ a e. omega (arith, date_time_length s a e))
value_near DURATION s v = mapped s duration (read_duration ical s) v (λ a e. omega (arith, duration_length s a e))
value_near FLOAT s v = mapped s float (read_float s) v (λ d e. omega (arith, float_length s d e))
value_near INTEGER s v = mapped s integer (read_integer s) v (λ w e. omega (arith, integer_length s w e))
value_near PERIOD s v = λ h. period_accepted (Near s) (λ a z h k. omega arith) (λ a z h k. omega arith) s v h
value_near RECUR s v = mapped s recur (read_rule s) v (λ a e. omega arith)
value_near TEXT s v = mapped s text (read_text s) v (λ a e. omega (arith, text_length s a e))
value_near TIME s v = mapped s time (read_time ical s) v (λ a e. omega (arith, time_length s a e))
value_near URI s v = mapped s uri (read_uri s) v (λ a e. omega (arith, ap length (uri_kept s a e)))
value_near UTC-OFFSET s v = mapped s utc_offset (read_utc_offset ical s) v (λ a e. omega (arith, offset_length s a e))
value_near UNKNOWN s v = mapped s unknown (read_unknown s) v (λ a e. omega (arith, ap length (unknown_kept s a e)))

text_near : (s v : List ℕ) → length v ≤ length s → Near s (text v)
unfolding parameter_value value_characters
text_near s v h = omega arith

unknown_near : (s : List ℕ) → Near s (unknown s)
unfolding parameter_value value_characters
unknown_near s = omega arith

typed_near : (t : ValueType) (s : List ℕ) (v : Value) → read_typed t s ≡ Some v → Near s v
unfolding pick
typed_near t s v h = go (same_type t TEXT) h
  where
    other : (b : Bool) → pick b (Some (unknown s)) (read_value ical t s) ≡ Some v → Near s v
    other true h = let q : unknown s ≡ v = cc in rw (← q) (unknown_near s)
    other false h = value_near t s v h

    go : (b : Bool) → pick b (Some (text s)) (pick (same_type t UNKNOWN) (Some (unknown s)) (read_value ical t s)) ≡ Some v → Near s v
    go true h = let q : text s ≡ v = cc in rw (← q) (text_near s s (omega arith))
    go false h = other (same_type t UNKNOWN) h

in_word_near : (o : Option (List (List ℕ))) (t : ValueType) (s : List ℕ) (v : Value) → read_word o t s ≡ Some v → Near s v
in_word_near None t s v h = typed_near t s v h
in_word_near (Some ws) t s v h = rw (← (provided-some (is_one_of (upper s) ws) (text (upper s)) v h).1) (text_near s (upper s) (omega (arith, upper-length s)))

-- as a string, and a comma
abbrev string_of : Value → List ℕ
string_of v = quoted (parameter_value v)

param_short : (n : List ℕ) (r : ParamValue) (v : Value) → read_param_value n r ≡ Some v → length (string_of v) + 1 ≤ rate * suc (length (write_param_value r))
unfolding read_param_value pick
param_short n r v h = go (not r.quoted and is_quoted_parameter n) h
  where
    go : (b : Bool) → pick b None (read_word (parameter_words n) (parameter_type n) r.chars) ≡ Some v → length (string_of v) + 1 ≤ rate * suc (length (write_param_value r))
    go true h = none-some h
    go false h = omega (arith, quoted_length (parameter_value v), in_word_near (parameter_words n) (parameter_type n) r.chars v h, chars.quoted_length r)

-- ---- a parameter

parameter_length : (r : RawParameter) (p : Parameter) → read_parameter r ≡ Some p → length (parameter_json p) + 1 ≤ rate * length (write_parameter r)
unfolding read_parameter parameter_json write_parameter pick
parameter_length r p h = go (is_listed_parameter (upper r.name) or is_single r.values) h
  where
    n : List ℕ
    n = upper r.name

    vs : List (List ℕ)
    vs = map write_param_value r.values

    named : List Value → Parameter
    named xs = record { name = n; values = xs }

    Brief : Type 0
    Brief = length (parameter_json p) + 1 ≤ rate * length (59 ∷ (r.name ⊕ 61 ∷ joined_by 44 vs))

    read : (o : Option (List Value)) → read_each (read_param_value n) r.values ≡ o → option_map named o ≡ Some p → Brief
    read None e k = none-some k
    read (Some xs) e k =
        let q : named xs ≡ p = cc in
        let outer = member_length (lower n) (one_or_array (map string_of xs)) in
        let each = each_length (read_param_value n) string_of write_param_value (param_short n) r.values xs e in
        rw (← q) (omega (arith, outer, one_length (map string_of xs), lower-length n, upper-length r.name, each, joined_weight 44 vs, length_both r.name (61 ∷ joined_by 44 vs)))

    go : (b : Bool) → pick b (option_map named (read_each (read_param_value n) r.values)) None ≡ Some p → Brief
    go true h = read (read_each (read_param_value n) r.values) refl h
    go false h = none-some h

-- ---- all parameters

each_parameter : (rs : List RawParameter) (ps : List Parameter) → read_each read_parameter rs ≡ Some ps → weight (map parameter_json ps) ≤ rate * bytes rs
unfolding read_each weight joined
each_parameter [] ps h = let q : [] ≡ ps = cc in rw (← q) (omega arith)
each_parameter (r ∷ rs) ps h =
    let e = and_then-some (read_parameter r) (λ b. cons_read b (read_each read_parameter rs)) ps h in
    let g = cons_read-some e.0 (read_each read_parameter rs) ps e.2 in
    let written = length_both (write_parameter r) (joined (map write_parameter rs)) in
    rw (← g.2) (omega (arith, written, parameter_length r e.0 e.1, each_parameter rs g.0 g.1))

pub parameters_length : (rs : List RawParameter) (ps : List Parameter) → read_parameters rs ≡ Some ps → weight (map parameter_json ps) ≤ rate * bytes rs
parameters_length rs ps h = omega (arith, each_parameter (own_parameters rs) ps h, own_bytes rs)
