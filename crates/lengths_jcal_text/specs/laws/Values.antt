-- The text of a value, with a separator, by the size of the JSON value that it is read from: four bytes for each at most.
--     value_brief     of a property's value
--     values_brief    of all its values
use Rattle.std.specs.Prelude.{◌≡◌, refl, Bool, true, false, List, [], ◌∷◌, map, ℕ, suc, ◌+◌, ◌*◌, ◌≤◌, eqb, length, Option, None, Some, option_map}
use Rattle.std.proofs.Common.{ap, arith}
use Rattle.octets.specs.Ascii.{ascii}
use Rattle.octets.specs.Pick.{pick}
use Rattle.octets.specs.laws.Append.{length_both}
use Rattle.octets.specs.Words.{same, is_one_of}
use Rattle.octets.specs.Reading.{provided, and_then, cons_read, read_or, read_each}
use Rattle.octets.specs.laws.Reading.{provided-some, and_then-some, cons_read-some, none-some}
use Rattle.calendar.specs.Calendar.{ical, xcal, ValueType, BINARY, BOOLEAN, CAL-ADDRESS, DATE, DATE-TIME, DURATION, FLOAT, INTEGER, PERIOD, RECUR, TEXT, TIME, URI, UTC-OFFSET, UNKNOWN}
use Rattle.calendar.specs.Calendar.{Decimal, Value, binary, boolean, cal_address, date, date_time, duration, float, integer, period_explicit, period_start, text, time, uri, utc_offset, unknown, geo, request_status}
use Rattle.schema.specs.Types.{is_type_of}
use Rattle.schema.specs.Properties.{permitted_types, property_words}
use Rattle.times.specs.Spelling.{with_marks}
use Rattle.times.specs.laws.Spelling.{marks_length}
use Rattle.times.specs.Date.{read_date, write_date}
use Rattle.times.specs.Time.{time_marks, read_time, write_time}
use Rattle.times.specs.laws.Time.{time_exact}
use Rattle.times.specs.DateTime.{read_date_time, write_date_time}
use Rattle.times.specs.Duration.{read_duration, write_duration}
use Rattle.times.specs.UtcOffset.{minute_marks, second_marks, read_utc_offset, write_utc_offset}
use Rattle.times.specs.laws.UtcOffset.{utc_offset_exact}
use Rattle.times.specs.Period.{write_period}
use Rattle.numbers.specs.Float.{read_float, write_float}
use Rattle.numbers.specs.Boolean.{read_boolean}
use Rattle.texts.specs.Text.{write_text}
use Rattle.texts.specs.Uri.{read_uri}
use Rattle.texts.specs.laws.Uri.{uri_kept}
use Rattle.texts.specs.Binary.{read_binary}
use Rattle.texts.specs.laws.Binary.{binary_kept}
use Rattle.texts.specs.Unknown.{read_unknown}
use Rattle.texts.specs.laws.Unknown.{unknown_kept}
use Rattle.texts.specs.RequestStatus.{status_parts}
use Rattle.recur.specs.Item.{or_other}
use Rattle.values.specs.ReadValue.{read_value}
use Rattle.values.specs.WriteValue.{write_value}
use Rattle.values.specs.laws.ReadBack.{made}
use Rattle.json_text.specs.Tree.{Json}
use Rattle.json_text.specs.Kinds.{as_string, as_number, as_literal, as_array, as_object}
use Rattle.jcal.specs.Integer.{read_number}
use Rattle.jcal.specs.Values.{read_string, period_from, read_period, read_recur, read_typed, read_chosen, read_geo, read_status, read_one, read_values}
use Rattle.lengths_xml.specs.laws.Pieces.{weight, joined_within}
use Rattle.lengths_xml.specs.laws.Numbers.{float_length}
use Rattle.lengths_text.specs.laws.Bytes.{name_some, name_length}
use Rattle.lengths_text.specs.laws.Values.{escaped_most, date_kept, date_time_kept, duration_length}
use Rattle.lengths_jcal_text.specs.laws.Sizes.{size, size_some, total, as_string_lem, as_number_lem, as_literal_lem, as_array_lem, as_object_lem, costs, total-costs, each_weight}
use Rattle.lengths_jcal_text.specs.laws.Numbers.{integer_brief, float_brief, truth_brief}
use Rattle.lengths_jcal_text.specs.laws.Rules.{rule_brief}

-- with a separator
abbrev pub Brief : Json → Value → Type 0
Brief j v = length (write_value v) + 1 ≤ 4 * size j

-- ---- strings: TEXT doubles at most, others do not grow

abbrev Kept : List ℕ → Value → Type 0
Kept s v = length (write_value v) ≤ 2 * length s

time_kept : (s v : List ℕ) → read_time xcal s ≡ Some v → length v ≤ length s
unfolding write_time
time_kept s v h = omega (arith, ap length (time_exact s v h), marks_length time_marks v)

offset_marks : (b : Bool) (v : List ℕ) → length v ≤ length (with_marks (pick b minute_marks second_marks) v)
unfolding pick
offset_marks true v = omega (arith, marks_length minute_marks v)
offset_marks false v = omega (arith, marks_length second_marks v)

offset_kept : (s v : List ℕ) → read_utc_offset xcal s ≡ Some v → length v ≤ length s
unfolding write_utc_offset
offset_kept s v h = omega (arith, ap length (utc_offset_exact xcal s v h), offset_marks (eqb (length v) 5) v)

string_brief : (t : ValueType) (j : Json) (v : Value) → ((s : List ℕ) → read_value xcal t s ≡ Some v → Kept s v) → read_string t j ≡ Some v → Brief j v
string_brief t j v f h =
    let q = and_then-some (as_string j) (read_value xcal t) v h in
    omega (arith, f q.0 q.2, as_string_lem j q.0 q.1)

-- ---- PERIOD

from_kept : (m e : List ℕ) (v : Value) → period_from m e ≡ Some v → length (write_value v) ≤ length m + 1 + length e
unfolding write_value write_period
from_kept m e v h = go (read_duration xcal e) refl h
  where
    go : (o : Option (List ℕ)) → read_duration xcal e ≡ o → or_other (option_map (period_start m) o) (option_map (period_explicit m) (read_date_time xcal e)) ≡ Some v → length (write_value v) ≤ length m + 1 + length e
    go None k h = made (λ v. length (write_value v) ≤ length m + 1 + length e) (period_explicit m) (read_date_time xcal e) v h (λ z g. omega (arith, length_both m (47 ∷ z), date_time_kept e z g))
    go (Some d) k h = let q : period_start m d ≡ v = cc in rw (← q) (omega (arith, length_both m (47 ∷ d), duration_length e d k))

period_brief : (l : List Json) (v : Value) → read_period l ≡ Some v → length (write_value v) ≤ total l
unfolding total
period_brief [] v h = none-some h
period_brief (s ∷ []) v h = none-some h
period_brief (s ∷ e ∷ []) v h =
    let p = and_then-some (and_then (as_string s) (read_date_time xcal)) (λ m. and_then (as_string e) (period_from m)) v h in
    let a = and_then-some (as_string s) (read_date_time xcal) p.0 p.1 in
    let b = and_then-some (as_string e) (period_from p.0) v p.2 in
    omega (arith, date_time_kept a.0 p.0 a.2, as_string_lem s a.0 a.1, from_kept p.0 b.0 v b.2, as_string_lem e b.0 b.1)
period_brief (s ∷ e ∷ x ∷ l) v h = none-some h

-- ---- by type

pub typed_brief : (t : ValueType) (j : Json) (v : Value) → read_typed t j ≡ Some v → Brief j v
unfolding read_typed read_value write_value write_date write_date_time write_duration write_time write_utc_offset
typed_brief BINARY j v h =
    let q = and_then-some (as_string j) (read_value ical BINARY) v h in
    made (λ v. Brief j v) binary (read_binary ical q.0) v q.2 (λ a e. omega (arith, ap length (binary_kept ical q.0 a e), as_string_lem j q.0 q.1))
typed_brief BOOLEAN j v h =
    let q = and_then-some (as_literal j) (read_value xcal BOOLEAN) v h in
    made (λ v. Brief j v) boolean (read_boolean xcal q.0) v q.2 (λ b e. omega (arith, truth_brief q.0 b e, as_literal_lem j q.0 q.1))
typed_brief CAL-ADDRESS j v h = string_brief CAL-ADDRESS j v (λ s k. made (Kept s) cal_address (read_uri s) v k (λ a e. omega (arith, ap length (uri_kept s a e)))) h
typed_brief DATE j v h = string_brief DATE j v (λ s k. made (Kept s) date (read_date xcal s) v k (λ a e. omega (arith, date_kept s a e))) h
typed_brief DATE-TIME j v h = string_brief DATE-TIME j v (λ s k. made (Kept s) date_time (read_date_time xcal s) v k (λ a e. omega (arith, date_time_kept s a e))) h
typed_brief DURATION j v h = string_brief DURATION j v (λ s k. made (Kept s) duration (read_duration xcal s) v k (λ a e. omega (arith, duration_length s a e))) h
typed_brief FLOAT j v h =
    let q = and_then-some (as_number j) (read_value xcal FLOAT) v h in
    made (λ v. Brief j v) float (read_float q.0) v q.2 (λ d e. omega (arith, float_brief q.0 d e, as_number_lem j q.0 q.1))
typed_brief INTEGER j v h =
    let q = and_then-some (as_number j) (λ s. option_map integer (read_number s)) v h in
    made (λ v. Brief j v) integer (read_number q.0) v q.2 (λ w e. omega (arith, integer_brief q.0 w e, as_number_lem j q.0 q.1))
typed_brief PERIOD j v h = let q = and_then-some (as_array j) read_period v h in omega (arith, period_brief q.0 v q.2, as_array_lem j q.0 q.1)
typed_brief RECUR j v h = let q = and_then-some (as_object j) read_recur v h in omega (arith, rule_brief q.0 v q.2, as_object_lem j q.0 q.1)
typed_brief TEXT j v h = string_brief TEXT j v (λ s k. made (Kept s) text (Some s) v k (λ a e. let q : s ≡ a = cc in rw (← q) (escaped_most s))) h
typed_brief TIME j v h = string_brief TIME j v (λ s k. made (Kept s) time (read_time xcal s) v k (λ a e. omega (arith, time_kept s a e))) h
typed_brief URI j v h = string_brief URI j v (λ s k. made (Kept s) uri (read_uri s) v k (λ a e. omega (arith, ap length (uri_kept s a e)))) h
typed_brief UTC-OFFSET j v h = string_brief UTC-OFFSET j v (λ s k. made (Kept s) utc_offset (read_utc_offset xcal s) v k (λ a e. omega (arith, offset_kept s a e))) h
typed_brief UNKNOWN j v h = string_brief UNKNOWN j v (λ s k. made (Kept s) unknown (read_unknown s) v k (λ a e. omega (arith, ap length (unknown_kept s a e)))) h

chosen_brief : (o : Option (List (List ℕ))) (t : ValueType) (j : Json) (v : Value) → read_chosen o t j ≡ Some v → Brief j v
unfolding write_value
chosen_brief None t j v h = typed_brief t j v h
chosen_brief (Some words) t j v h =
    let q = and_then-some (as_string j) (λ s. provided (is_one_of s words) (text s)) v h in
    let e = provided-some (is_one_of q.0 words) (text q.0) v q.2 in
    rw (← e.1) (omega (arith, escaped_most q.0, as_string_lem j q.0 q.1))

-- ---- GEO and REQUEST-STATUS

geo_brief : (l : List Json) (v : Value) → read_geo l ≡ Some v → length (write_value v) ≤ 4 * total l
unfolding total
geo_brief [] v h = none-some h
geo_brief (la ∷ []) v h = none-some h
geo_brief (la ∷ lo ∷ []) v h =
    let p = and_then-some (and_then (as_number la) read_float) (λ a. and_then (and_then (as_number lo) read_float) (λ o. Some (geo a o))) v h in
    let q = and_then-some (and_then (as_number lo) read_float) (λ o. Some (geo p.0 o)) v p.2 in
    let a = and_then-some (as_number la) read_float p.0 p.1 in
    let b = and_then-some (as_number lo) read_float q.0 q.1 in
    let e : geo p.0 q.0 ≡ v = cc q.2 in
    rw (← e)
    (unfold write_value in omega (arith, length_both (write_float p.0) (59 ∷ write_float q.0), float_brief a.0 p.0 a.2, float_brief b.0 q.0 b.2, as_number_lem la a.0 a.1, as_number_lem lo b.0 b.1))
geo_brief (la ∷ lo ∷ x ∷ l) v h = none-some h

strings_weight : (l : List Json) (ss : List (List ℕ)) → read_each as_string l ≡ Some ss → weight ss ≡ total l
unfolding read_each weight total
strings_weight [] ss h = let q : [] ≡ ss = cc in rw (← q)
strings_weight (v ∷ l) ss h =
    let e = and_then-some (as_string v) (λ b. cons_read b (read_each as_string l)) ss h in
    let f = cons_read-some e.0 (read_each as_string l) ss e.2 in
    rw (← f.2) (omega (arith, as_string_lem v e.0 e.1, strings_weight l f.0 f.1))

status_brief : (ss : List (List ℕ)) (v : Value) → read_status ss ≡ Some v → length (write_value v) ≤ 2 * weight ss
unfolding weight write_value
status_brief [] v h = none-some h
status_brief (c ∷ []) v h = none-some h
status_brief (c ∷ d ∷ []) v h = let q : request_status c d None ≡ v = cc in rw (← q) (omega (arith, joined_within 59 (map write_text (status_parts c d None)), escaped_most c, escaped_most d))
status_brief (c ∷ d ∷ x ∷ []) v h =
    let q : request_status c d (Some x) ≡ v = cc in rw (← q) (omega (arith, joined_within 59 (map write_text (status_parts c d (Some x))), escaped_most c, escaped_most d, escaped_most x))
status_brief (c ∷ d ∷ x ∷ s ∷ ss) v h = none-some h

-- ---- the values of a property

pub value_brief : (k n : List ℕ) (t : ValueType) (j : Json) (v : Value) → read_one k n t j ≡ Some v → Brief j v
unfolding pick
value_brief k n t j v h = go (same n (ascii "GEO")) (same n (ascii "REQUEST-STATUS")) h
  where
    go : (a b : Bool) → pick a (and_then (as_array j) read_geo) (pick b (and_then (as_array j) (λ vs. and_then (read_each as_string vs) read_status)) (read_chosen (property_words k n) t j)) ≡ Some v → Brief j v
    go true b h = let q = and_then-some (as_array j) read_geo v h in omega (arith, geo_brief q.0 v q.2, as_array_lem j q.0 q.1)
    go false true h =
        let q = and_then-some (as_array j) (λ vs. and_then (read_each as_string vs) read_status) v h in
        let p = and_then-some (read_each as_string q.0) read_status v q.2 in
        omega (arith, status_brief p.0 v p.2, strings_weight q.0 p.0 p.1, as_array_lem j q.0 q.1)
    go false false h = chosen_brief (property_words k n) t j v h

-- what is not read counts as nothing
pub values_brief : (k n : List ℕ) (t : ValueType) (l : List Json) → weight (map write_value (read_or [] (read_values k n t l))) ≤ 4 * total l
unfolding read_values read_or pick weight
values_brief k n t l = go (is_type_of t (permitted_types n))
  where
    by : (o : Option (List Value)) → read_each (read_one k n t) l ≡ o → weight (map write_value (read_or [] o)) ≤ 4 * total l
    by None e = omega arith
    by (Some vs) e = omega (arith, each_weight size (read_one k n t) write_value (value_brief k n t) l vs e, total-costs l)

    go : (b : Bool) → weight (map write_value (read_or [] (pick b (read_each (read_one k n t) l) None))) ≤ 4 * total l
    go true = by (read_each (read_one k n t) l) refl
    go false = omega arith
