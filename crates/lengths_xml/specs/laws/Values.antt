-- The XML of a value, of any type: no more than `rate` bytes for each byte of its text, and one byte more.
--     type_length     the name of a type
--     value_length    a value
--     each_length     the values of pieces of a text
use Rattle.std.specs.Prelude.{◌≡◌, refl, Bool, true, false, List, [], ◌∷◌, map, ℕ, suc, ◌+◌, ◌*◌, ◌≤◌, length, take, drop, Option, None, Some, option_map}
use Rattle.std.proofs.Common.{ap, arith, length-take, length-drop}
use Rattle.std.proofs.lemmas.Bool.{false≢true}
use Rattle.octets.specs.Ascii.{ascii}
use Rattle.octets.specs.Pick.{pick}
use Rattle.octets.specs.Append.{◌⊕◌}
use Rattle.octets.specs.laws.Append.{length_both}
use Rattle.octets.specs.Class.{upper, lower}
use Rattle.octets.specs.Reading.{and_then, read_each, cons_read}
use Rattle.octets.specs.laws.Reading.{provided-some, and_then-some, cons_read-some, none-some}
use Rattle.octets.specs.laws.Letters.{upper-length, lower-length}
use Rattle.calendar.specs.Calendar.{ical, xcal, ValueType, BINARY, BOOLEAN, CAL-ADDRESS, DATE, DATE-TIME, DURATION, FLOAT, INTEGER, PERIOD, RECUR, TEXT, TIME, URI, UTC-OFFSET, UNKNOWN}
use Rattle.calendar.specs.Calendar.{RulePart, Value, binary, boolean, cal_address, date, date_time, duration, float, integer, period_explicit, period_start, recur, text, time, uri, utc_offset, unknown, type_of}
use Rattle.schema.specs.Types.{type_name}
use Rattle.times.specs.Date.{read_date}
use Rattle.times.specs.Time.{read_time}
use Rattle.times.specs.DateTime.{is_date_time, read_date_time, write_date_time}
use Rattle.times.specs.Duration.{read_duration, write_duration}
use Rattle.times.specs.UtcOffset.{read_utc_offset}
use Rattle.times.specs.Period.{slash_at, period_from, read_period}
use Rattle.numbers.specs.Integer.{read_integer}
use Rattle.numbers.specs.Float.{read_float}
use Rattle.numbers.specs.Boolean.{read_boolean}
use Rattle.texts.specs.Text.{read_text}
use Rattle.texts.specs.Uri.{is_uri, read_uri}
use Rattle.texts.specs.laws.Uri.{uri_kept}
use Rattle.texts.specs.Binary.{read_binary}
use Rattle.texts.specs.laws.Binary.{binary_kept}
use Rattle.texts.specs.Unknown.{read_unknown}
use Rattle.texts.specs.laws.Unknown.{unknown_kept}
use Rattle.recur.specs.Rule.{read_rule}
use Rattle.values.specs.ReadValue.{read_value}
use Rattle.values.specs.WriteValue.{value_characters}
use Rattle.xcal.specs.WriteXml.{text_element, parts_xml, plain_xml, value_xml, values_xml}
use Rattle.lengths_xml.specs.laws.Elements.{rate, element_length, text_element_length}
use Rattle.lengths_xml.specs.laws.Pieces.{weight}
use Rattle.lengths_xml.specs.laws.Times.{date_length, date_some, time_length, time_some, date_time_kept, date_time_written, date_time_length, date_time_some, duration_length, duration_some, offset_length, offset_some}
use Rattle.lengths_xml.specs.laws.Numbers.{integer_length, integer_some, truth_length, truth_some, float_length, float_some}
use Rattle.lengths_xml.specs.laws.Texts.{text_length}
use Rattle.lengths_xml.specs.laws.Rules.{rule_length}

-- the XML of a value, whose text is s, is within the bound
abbrev pub Short : List ℕ → Value → Type 0
Short s v = length (value_xml v) ≤ rate * suc (length s)

-- ---- a value of character data

pub type_length : (t : ValueType) → length (type_name t) ≤ 11
type_length BINARY = omega arith
type_length BOOLEAN = omega arith
type_length CAL-ADDRESS = omega arith
type_length DATE = omega arith
type_length DATE-TIME = omega arith
type_length DURATION = omega arith
type_length FLOAT = omega arith
type_length INTEGER = omega arith
type_length PERIOD = omega arith
type_length RECUR = omega arith
type_length TEXT = omega arith
type_length TIME = omega arith
type_length URI = omega arith
type_length UTC-OFFSET = omega arith
type_length UNKNOWN = omega arith

-- in an element of its type, with every byte escaped
plain_length : (s : List ℕ) (v : Value) → 2 * length (type_name (type_of v)) + 5 + 5 * length (value_characters v) ≤ rate * suc (length s) → length (plain_xml v) ≤ rate * suc (length s)
plain_length s v h = omega (arith, h, text_element_length (lower (type_name (type_of v))) (value_characters v), lower-length (type_name (type_of v)))

pub kept_length : (s v : List ℕ) → length v ≤ length s → Short s (text v)
unfolding value_xml value_characters
kept_length s v h = plain_length s (text v) (omega arith)

pub unknown-length : (s v : List ℕ) → length v ≤ length s → Short s (unknown v)
unfolding value_xml value_characters
unknown-length s v h = plain_length s (unknown v) (omega arith)

-- ---- a period

explicit_length : (s a z : List ℕ) → 15 ≤ length s → length a ≤ length s → length z ≤ length s → Short s (period_explicit a z)
unfolding value_xml
explicit_length s a z l h k =
    let x : List ℕ = text_element (ascii "start") (write_date_time xcal a) in
    let y : List ℕ = text_element (ascii "end") (write_date_time xcal z) in
    let first = text_element_length (ascii "start") (write_date_time xcal a) in
    let second = text_element_length (ascii "end") (write_date_time xcal z) in
    omega (arith, element_length (ascii "period") (x ⊕ y), length_both x y, first, second, date_time_written a, date_time_written z)

start_length : (s a d : List ℕ) → 15 ≤ length s → length a ≤ length s → length (write_duration xcal d) ≤ length s → Short s (period_start a d)
unfolding value_xml
start_length s a d l h k =
    let x : List ℕ = text_element (ascii "start") (write_date_time xcal a) in
    let y : List ℕ = text_element (ascii "duration") (write_duration xcal d) in
    let first = text_element_length (ascii "start") (write_date_time xcal a) in
    let second = text_element_length (ascii "duration") (write_duration xcal d) in
    omega (arith, element_length (ascii "period") (x ⊕ y), length_both x y, first, second, date_time_written a)

from_length : (s a r : List ℕ) (v : Value) → 15 ≤ length s → length a ≤ length s → length r ≤ length s → period_from a r ≡ Some v → Short s v
unfolding period_from pick
from_length s a r v l h k e = go (is_date_time (upper r)) e
  where
    go : (t : Bool) → pick t (Some (period_explicit a (upper r))) (and_then (read_duration ical r) (λ d. Some (period_start a d))) ≡ Some v → Short s v
    go true e = let q : period_explicit a (upper r) ≡ v = cc in rw (← q) (explicit_length s a (upper r) l h (omega (arith, upper-length r)))
    go false e =
        let p = and_then-some (read_duration ical r) (λ d. Some (period_start a d)) v e in
        let q : period_start a p.0 ≡ v = cc p.2 in
        rw (← q) (start_length s a p.0 l h (omega (arith, duration_length r p.0 p.1)))

period_length : (s : List ℕ) (v : Value) → read_period s ≡ Some v → Short s v
unfolding read_period
period_length s v h =
    let r : List ℕ = drop 1 (drop (slash_at s) s) in
    let q = and_then-some (read_date_time ical (take (slash_at s) s)) (λ start. period_from start r) v h in
    let start : length q.0 ≤ length s = omega (arith, date_time_kept (take (slash_at s) s) q.0 q.1, length-take (slash_at s) s) in
    let least : 15 ≤ length s = omega (arith, date_time_some (take (slash_at s) s) q.0 q.1, length-take (slash_at s) s) in
    let after : length r ≤ length s = omega (arith, length-drop 1 (drop (slash_at s) s), length-drop (slash_at s) s) in
    from_length s q.0 r v least start after q.2

-- ---- a rule

recur_length : (s : List ℕ) → (o : Option (List RulePart)) → read_rule s ≡ o → (v : Value) → option_map recur o ≡ Some v → Short s v
unfolding value_xml
recur_length s None e v h = none-some h
recur_length s (Some ps) e v h =
    let q : recur ps ≡ v = cc in
    rw (← q) (omega (arith, element_length (ascii "recur") (parts_xml ps), rule_length s ps e))

-- ---- a value of any type

mapped : {A : Type 0} (s : List ℕ) (g : A → Value) (o : Option A) (v : Value) → ((a : A) → o ≡ Some a → Short s (g a)) → option_map g o ≡ Some v → Short s v
mapped s g None v f h = none-some h
mapped s g (Some a) v f h = let q : g a ≡ v = cc in rw (← q) (f a refl)

uri_some : (s v : List ℕ) → read_uri s ≡ Some v → 1 ≤ length s
unfolding is_uri
uri_some [] v h = absurd (false≢true (provided-some (is_uri []) [] v h).0)
uri_some (b ∷ s) v h = omega arith

pub value_length : (t : ValueType) (s : List ℕ) (v : Value) → read_value ical t s ≡ Some v → Short s v
unfolding read_value value_xml value_characters
value_length BINARY s v = mapped s binary (read_binary ical s) v (λ a e. plain_length s (binary a) (omega (arith, ap length (binary_kept ical s a e))))
value_length BOOLEAN s v = mapped s boolean (read_boolean ical s) v (λ b e. plain_length s (boolean b) (omega (arith, truth_length b, truth_some s b e)))
value_length CAL-ADDRESS s v = mapped s cal_address (read_uri s) v (λ a e. plain_length s (cal_address a) (omega (arith, ap length (uri_kept s a e), uri_some s a e)))
value_length DATE s v = mapped s date (read_date ical s) v (λ a e. plain_length s (date a) (omega (arith, date_length s a e, date_some s a e)))
value_length DATE-TIME s v = mapped s date_time (read_date_time ical s) v (λ a e. plain_length s (date_time a) (omega (arith, date_time_length s a e, date_time_some s a e)))
value_length DURATION s v = mapped s duration (read_duration ical s) v (λ a e. plain_length s (duration a) (omega (arith, duration_length s a e, duration_some s a e)))
value_length FLOAT s v = mapped s float (read_float s) v (λ d e. plain_length s (float d) (omega (arith, float_length s d e, float_some s d e)))
value_length INTEGER s v = mapped s integer (read_integer s) v (λ w e. plain_length s (integer w) (omega (arith, integer_length s w e, integer_some s w e)))
value_length PERIOD s v = period_length s v
value_length RECUR s v = recur_length s (read_rule s) refl v
value_length TEXT s v = mapped s text (read_text s) v (λ a e. kept_length s a (text_length s a e))
value_length TIME s v = mapped s time (read_time ical s) v (λ a e. plain_length s (time a) (omega (arith, time_length s a e, time_some s a e)))
value_length URI s v = mapped s uri (read_uri s) v (λ a e. plain_length s (uri a) (omega (arith, ap length (uri_kept s a e))))
value_length UTC-OFFSET s v = mapped s utc_offset (read_utc_offset ical s) v (λ a e. plain_length s (utc_offset a) (omega (arith, offset_length s a e, offset_some s a e)))
value_length UNKNOWN s v = mapped s unknown (read_unknown s) v (λ a e. plain_length s (unknown a) (omega (arith, ap length (unknown_kept s a e))))

-- ---- each of a list, where what it is read from has some text

pub each_length : {A : Type 0} (reading : A → Option Value) (spelling : A → List ℕ) → ((a : A) (v : Value) → reading a ≡ Some v → Short (spelling a) v) →
    (l : List A) (vs : List Value) → read_each reading l ≡ Some vs → length (values_xml vs) ≤ rate * weight (map spelling l)
unfolding read_each values_xml weight
each_length reading spelling f [] vs h = let q : [] ≡ vs = cc in rw (← q) (omega arith)
each_length reading spelling f (a ∷ l) vs h =
    let e = and_then-some (reading a) (λ b. cons_read b (read_each reading l)) vs h in
    let g = cons_read-some e.0 (read_each reading l) vs e.2 in
    rw (← g.2) (omega (arith, length_both (value_xml e.0) (values_xml g.0), f a e.0 e.1, each_length reading spelling f l g.0 g.1))
