-- A value of iCalendar text as JSON: the rules for each way that the code goes.
--     put_recur, put_no_recur     RECUR
--     put_plain, put_no_plain     a type that has characters
--     put_at                      the type by its number
use Rattle.std.specs.Prelude.{◌≡◌, Bool, List, [], ℕ, ◌≤◌, eqb, Option, None, Some, option_map, is_some}
use Rattle.std.proofs.Math.Path.{refl, ap}
use Rattle.std.proofs.Common.{sym, ◌∙◌, arith, ne_eqb}
use Rattle.std.proofs.Math.Bool.{true, false}
use Rattle.std.proofs.lemmas.Bool.{false≢true}
use Rattle.std.proofs.Math.Decide.{dec_le}
use Rattle.std.proofs.Math.ListN.{get_or-eq_default}
use Rattle.octets.specs.Pick.{pick, ◌or◌}
use Rattle.octets.specs.Words.{cut_at}
use Rattle.octets.specs.Reading.{is_read, or_nothing}
use Rattle.calendar.specs.Calendar.{ical, ValueType, BINARY, BOOLEAN, CAL-ADDRESS, DATE, DATE-TIME, DURATION, FLOAT, INTEGER, PERIOD, RECUR, TEXT, TIME, URI, UTC-OFFSET, UNKNOWN}
use Rattle.calendar.specs.Calendar.{RulePart, Value, binary, boolean, cal_address, date, date_time, duration, float, integer, recur, text, time, uri, utc_offset, unknown}
use Rattle.sink.specs.Sink.{Put}
use Rattle.source.specs.Source.{rest}
use Rattle.schema.specs.Types.{value_types, type_place}
use Rattle.schema.specs.Numbers.{type_at}
use Rattle.schema.specs.laws.Places.{type_back}
use Rattle.times.specs.Date.{read_date}
use Rattle.times.specs.Time.{read_time}
use Rattle.times.specs.DateTime.{read_date_time}
use Rattle.times.specs.Duration.{read_duration}
use Rattle.times.specs.UtcOffset.{read_utc_offset}
use Rattle.numbers.specs.Integer.{read_integer}
use Rattle.numbers.specs.Float.{read_float}
use Rattle.numbers.specs.Boolean.{read_boolean}
use Rattle.texts.specs.Text.{read_text}
use Rattle.texts.specs.Uri.{read_uri}
use Rattle.texts.specs.Binary.{read_binary}
use Rattle.texts.specs.Unknown.{read_unknown}
use Rattle.recur.specs.Parts.{part_names}
use Rattle.recur.specs.Rule.{read_rule}
use Rattle.recur.specs.Noted.{Parted}
use Rattle.values.specs.ReadValue.{read_value}
use Rattle.values.specs.WriteValue.{value_characters}
use Rattle.values.specs.laws.ReadBack.{made}
use Rattle.json_text.specs.Write.{escaped, object_of}
use Rattle.jcal.specs.WriteJcal.{value_json}
use Rattle.jcal.proofs.laws.Plain.{boolean_plain, float_plain, integer_plain}
use Rattle.write_jcal_value.specs.Rules.{plain_json, named_shown}
use Rattle.write_jcal_value.specs.Scalars.{stands_bare}
use Rattle.write_jcal_value.specs.laws.Rules.{rule_json}
use Rattle.write_jcal_value.specs.laws.PutRule.{nothing_read}

-- ---- RECUR

module _ {d e : List ℕ} {o q : ℕ} {m : ℕ} {s : List ℕ} {c : ℕ} {r : Option (List (Option ℕ))} (p : Parted m s c r) where
  pub put_recur : {t : List (Option ℕ)} → r ≡ Some t → Put d e o q (object_of (named_shown part_names (cut_at 59 (rest m s c)))) → Put d e o q (or_nothing value_json (read_value ical RECUR (rest m s c)))
  unfolding read_value value_json is_read
  put_recur h w = go (read_rule (rest m s c)) refl (p.is ∙ ap is_some h)
    where
      go : (u : Option (List RulePart)) → read_rule (rest m s c) ≡ u → is_read u ≡ true → Put d e o q (or_nothing value_json (option_map recur u))
      go None k z = absurd (false≢true z)
      go (Some v) k z = rw (rule_json (rest m s c) v k) w

  pub put_no_recur : r ≡ None → Put d e o q [] → Put d e o q (or_nothing value_json (read_value ical RECUR (rest m s c)))
  unfolding read_value is_read
  put_no_recur h w = go (read_rule (rest m s c)) (p.is ∙ ap is_some h)
    where
      go : (u : Option (List RulePart)) → is_read u ≡ false → Put d e o q (or_nothing value_json (option_map recur u))
      go None z = w
      go (Some v) z = absurd (false≢true (sym z))

-- ---- a type that has characters

-- PERIOD (8) and RECUR (9) have none
abbrev is_made : ValueType → Bool
is_made u = eqb (type_place u) 8 or eqb (type_place u) 9

-- the characters, as they stand or as a string
abbrev Shows : Bool → Value → Type 0
Shows bare v = value_json v ≡ plain_json bare (escaped (value_characters v))

plain : (u : ValueType) (l : List ℕ) (v : Value) → is_made u ≡ false → read_value ical u l ≡ Some v → Shows (stands_bare (type_place u)) v
unfolding read_value value_json value_characters pick ◌or◌
plain BINARY l v m h = made (Shows false) binary (read_binary ical l) v h (λ a e. refl)
plain BOOLEAN l v m h = made (Shows true) boolean (read_boolean ical l) v h (λ a e. sym (boolean_plain a))
plain CAL-ADDRESS l v m h = made (Shows false) cal_address (read_uri l) v h (λ a e. refl)
plain DATE l v m h = made (Shows false) date (read_date ical l) v h (λ a e. refl)
plain DATE-TIME l v m h = made (Shows false) date_time (read_date_time ical l) v h (λ a e. refl)
plain DURATION l v m h = made (Shows false) duration (read_duration ical l) v h (λ a e. refl)
plain FLOAT l v m h = made (Shows true) float (read_float l) v h (λ a e. sym (float_plain l a e))
plain INTEGER l v m h = made (Shows true) integer (read_integer l) v h (λ a e. sym (integer_plain a))
plain PERIOD l v m h = absurd (false≢true (sym m))
plain RECUR l v m h = absurd (false≢true (sym m))
plain TEXT l v m h = made (Shows false) text (read_text l) v h (λ a e. refl)
plain TIME l v m h = made (Shows false) time (read_time ical l) v h (λ a e. refl)
plain URI l v m h = made (Shows false) uri (read_uri l) v h (λ a e. refl)
plain UTC-OFFSET l v m h = made (Shows false) utc_offset (read_utc_offset ical l) v h (λ a e. refl)
plain UNKNOWN l v m h = made (Shows false) unknown (read_unknown l) v h (λ a e. refl)

not_made : (t : ℕ) → (t ≡ 8 → ⊥) → (t ≡ 9 → ⊥) → is_made (type_at t) ≡ false
unfolding ◌or◌
not_made t a b = go (dec_le 14 t)
  where
    go : Dec (14 ≤ t) → is_made (type_at t) ≡ false
    go (yes h) = rw (get_or-eq_default value_types UNKNOWN h)
    go (no h) = rw (type_back t (omega arith), ne_eqb t 8 a, ne_eqb t 9 b)

bare_place : (t : ℕ) → stands_bare (type_place (type_at t)) ≡ stands_bare t
unfolding ◌or◌
bare_place t = go (dec_le 14 t)
  where
    go : Dec (14 ≤ t) → stands_bare (type_place (type_at t)) ≡ stands_bare t
    go (yes h) = rw (get_or-eq_default value_types UNKNOWN h, ne_eqb t 1 (λ e. omega arith), ne_eqb t 6 (λ e. omega arith), ne_eqb t 7 (λ e. omega arith))
    go (no h) = rw (type_back t (omega arith))

module _ {d e : List ℕ} {o q : ℕ} (t : ℕ) (l : List ℕ) {r : Option ℕ} (p : is_read (read_value ical (type_at t) l) ≡ is_some r) where
  pub put_plain : {k : ℕ} → (t ≡ 8 → ⊥) → (t ≡ 9 → ⊥) → r ≡ Some k →
      Put d e o q (plain_json (stands_bare t) (or_nothing (λ v. escaped (value_characters v)) (read_value ical (type_at t) l))) → Put d e o q (or_nothing value_json (read_value ical (type_at t) l))
  unfolding is_read
  put_plain a b h w = go (read_value ical (type_at t) l) refl (p ∙ ap is_some h) w
    where
      go : (u : Option Value) → read_value ical (type_at t) l ≡ u → is_read u ≡ true → Put d e o q (plain_json (stands_bare t) (or_nothing (λ v. escaped (value_characters v)) u)) → Put d e o q (or_nothing value_json u)
      go None k z w = absurd (false≢true z)
      go (Some v) k z w = rw (plain (type_at t) l v (not_made t a b) k, bare_place t) w

  pub put_no_plain : r ≡ None → Put d e o q [] → Put d e o q (or_nothing value_json (read_value ical (type_at t) l))
  put_no_plain h w = nothing_read value_json (read_value ical (type_at t) l) (p ∙ ap is_some h) w

-- ---- the type by its number

pub put_at : {d e : List ℕ} {o q : ℕ} (t k : ℕ) (l : List ℕ) → t ≡ k → Put d e o q (or_nothing value_json (read_value ical (type_at k) l)) → Put d e o q (or_nothing value_json (read_value ical (type_at t) l))
put_at t k l h w = rw h w
