-- Laws of what specs/PutValue.antt defines.
--     put_..       what the writer of each type puts is that
--     placing      the choice of a type
use Rattle.std.specs.Prelude.{◌≡◌, refl, Bool, List, [], ℕ, eqb, Option, None, Some, option_map}
use Rattle.std.proofs.Common.{sym, rules, eq-eqb, ne_eqb}
use Rattle.std.proofs.Math.Path.{subst}
use Rattle.octets.specs.Pick.{pick}
use Rattle.octets.specs.Reading.{or_nothing}
use Rattle.calendar.specs.Calendar.{ical, xcal, ValueType, BINARY, BOOLEAN, CAL-ADDRESS, DATE, DATE-TIME, DURATION, FLOAT, INTEGER, PERIOD, RECUR, TEXT, TIME, URI, UTC-OFFSET, UNKNOWN}
use Rattle.calendar.specs.Calendar.{RulePart, Value, binary, cal_address, date, date_time, duration, float, integer, recur, text, time, uri, utc_offset, unknown}
use Rattle.sink.specs.Sink.{Put}
use Rattle.schema.specs.Numbers.{type_at}
use Rattle.times.specs.Date.{read_date, write_date}
use Rattle.times.specs.Time.{read_time, write_time}
use Rattle.times.specs.DateTime.{read_date_time, write_date_time}
use Rattle.times.specs.Duration.{read_duration, write_duration}
use Rattle.times.specs.UtcOffset.{read_utc_offset, write_utc_offset}
use Rattle.times.specs.Period.{read_period}
use Rattle.times.specs.laws.Period.{period_accepted}
use Rattle.numbers.specs.Integer.{read_integer, write_integer}
use Rattle.numbers.specs.Float.{read_float, write_float}
use Rattle.numbers.specs.Boolean.{read_boolean, write_boolean}
use Rattle.texts.specs.Text.{read_text}
use Rattle.texts.specs.Uri.{read_uri}
use Rattle.texts.specs.Binary.{read_binary}
use Rattle.texts.specs.Unknown.{read_unknown}
use Rattle.texts.specs.Chars.{as_is}
use Rattle.recur.specs.Rule.{read_rule}
use Rattle.xml.specs.Escape.{escaped}
use Rattle.values.specs.ReadValue.{read_value}
use Rattle.values.specs.WriteValue.{value_characters}
use Rattle.values.specs.ValueAt.{from_binary}
use Rattle.values.specs.laws.ValueAt.{from_binary_lem}
use Rattle.values.specs.laws.Bare.{date_bare, time_bare, date_time_bare, duration_bare, offset_bare, integer_bare, float_bare, boolean_bare, binary_bare}
use Rattle.values.specs.PutValue.{xml_of}

mapped : {A : Type 0} (g : A → Value) (w : A → List ℕ) (o : Option A) → ((a : A) → o ≡ Some a → escaped (value_characters (g a)) ≡ w a) → or_nothing w o ≡ xml_of (option_map g o)
unfolding xml_of
mapped g w None k = refl
mapped g w (Some a) k = sym (k a refl)

nothing : (o : Option Value) → ((v : Value) → o ≡ Some v → escaped (value_characters v) ≡ []) → [] ≡ xml_of o
unfolding xml_of
nothing None k = refl
nothing (Some v) k = sym (k v refl)

no_rule : (o : Option (List RulePart)) → [] ≡ xml_of (option_map recur o)
unfolding xml_of value_characters escaped
no_rule None = refl
no_rule (Some r) = refl

module _ {d e : List ℕ} {o r : ℕ} (l : List ℕ) where
  pub put_date : Put d e o r (or_nothing (write_date xcal) (read_date ical l)) → Put d e o r (xml_of (read_value ical DATE l))
  unfolding read_value value_characters
  put_date p = subst (Put d e o r) (mapped date (write_date xcal) (read_date ical l) (date_bare l)) p

  pub put_time : Put d e o r (or_nothing (write_time xcal) (read_time ical l)) → Put d e o r (xml_of (read_value ical TIME l))
  unfolding read_value value_characters
  put_time p = subst (Put d e o r) (mapped time (write_time xcal) (read_time ical l) (time_bare l)) p

  pub put_date_time : Put d e o r (or_nothing (write_date_time xcal) (read_date_time ical l)) → Put d e o r (xml_of (read_value ical DATE-TIME l))
  unfolding read_value value_characters
  put_date_time p = subst (Put d e o r) (mapped date_time (write_date_time xcal) (read_date_time ical l) (date_time_bare l)) p

  pub put_duration : Put d e o r (or_nothing (write_duration xcal) (read_duration ical l)) → Put d e o r (xml_of (read_value ical DURATION l))
  unfolding read_value value_characters
  put_duration p = subst (Put d e o r) (mapped duration (write_duration xcal) (read_duration ical l) (duration_bare l)) p

  pub put_offset : Put d e o r (or_nothing (write_utc_offset xcal) (read_utc_offset ical l)) → Put d e o r (xml_of (read_value ical UTC-OFFSET l))
  unfolding read_value value_characters
  put_offset p = subst (Put d e o r) (mapped utc_offset (write_utc_offset xcal) (read_utc_offset ical l) (offset_bare l)) p

  pub put_integer : Put d e o r (or_nothing write_integer (read_integer l)) → Put d e o r (xml_of (read_value ical INTEGER l))
  unfolding read_value value_characters
  put_integer p = subst (Put d e o r) (mapped integer write_integer (read_integer l) (λ w h. integer_bare w)) p

  pub put_float : Put d e o r (or_nothing write_float (read_float l)) → Put d e o r (xml_of (read_value ical FLOAT l))
  unfolding read_value value_characters
  put_float p = subst (Put d e o r) (mapped float write_float (read_float l) (float_bare l)) p

  pub put_binary : Put d e o r (or_nothing as_is (read_binary ical l)) → Put d e o r (xml_of (read_value ical BINARY l))
  unfolding read_value value_characters
  put_binary p = subst (Put d e o r) (mapped binary as_is (read_binary ical l) (binary_bare l)) p

  pub put_text : Put d e o r (or_nothing escaped (read_text l)) → Put d e o r (xml_of (read_value ical TEXT l))
  unfolding read_value value_characters
  put_text p = subst (Put d e o r) (mapped text escaped (read_text l) (λ v h. refl)) p

  pub put_uri : Put d e o r (or_nothing escaped (read_uri l)) → Put d e o r (xml_of (read_value ical URI l))
  unfolding read_value value_characters
  put_uri p = subst (Put d e o r) (mapped uri escaped (read_uri l) (λ v h. refl)) p

  pub put_address : Put d e o r (or_nothing escaped (read_uri l)) → Put d e o r (xml_of (read_value ical CAL-ADDRESS l))
  unfolding read_value value_characters
  put_address p = subst (Put d e o r) (mapped cal_address escaped (read_uri l) (λ v h. refl)) p

  pub put_unknown : Put d e o r (or_nothing escaped (read_unknown l)) → Put d e o r (xml_of (read_value ical UNKNOWN l))
  unfolding read_value value_characters
  put_unknown p = subst (Put d e o r) (mapped unknown escaped (read_unknown l) (λ v h. refl)) p

  -- PERIOD and RECUR are made of elements
  pub put_period : Put d e o r [] → Put d e o r (xml_of (read_value ical PERIOD l))
  unfolding read_value value_characters escaped
  put_period p = subst (Put d e o r) (nothing (read_period l) (λ v h. period_accepted (λ v. escaped (value_characters v) ≡ []) (λ a z h k. refl) (λ a z h k. refl) l v h)) p

  pub put_rule : Put d e o r [] → Put d e o r (xml_of (read_value ical RECUR l))
  unfolding read_value
  put_rule p = subst (Put d e o r) (no_rule (read_rule l)) p

  -- a BOOLEAN that was read
  module _ {b : Option Bool} (q : read_boolean ical l ≡ b) where
    pub put_truth : {t : Bool} → b ≡ Some t → Put d e o r (write_boolean xcal t) → Put d e o r (xml_of (read_value ical BOOLEAN l))
    unfolding read_value xml_of value_characters
    put_truth {t} h p = rw (q, h, boolean_bare t) p

    pub put_no_truth : b ≡ None → Put d e o r [] → Put d e o r (xml_of (read_value ical BOOLEAN l))
    unfolding read_value xml_of
    put_no_truth h p = rw (q, h) p

  -- ---- the choice of a type

  module _ (t k : ℕ) (x z : ValueType) where
    pub put_type : t ≡ k → Put d e o r (xml_of (read_value ical x l)) → Put d e o r (xml_of (read_value ical (pick (eqb t k) x z) l))
    unfolding pick
    put_type h p = rw (eq-eqb t k h) p

    pub put_next : (t ≡ k → ⊥) → Put d e o r (xml_of (read_value ical z l)) → Put d e o r (xml_of (read_value ical (pick (eqb t k) x z) l))
    unfolding pick
    put_next h p = rw (ne_eqb t k h) p

  pub put_value : (t : ℕ) → Put d e o r (xml_of (read_value ical (from_binary t) l)) → Put d e o r (or_nothing (λ v. escaped (value_characters v)) (read_value ical (type_at t) l))
  unfolding xml_of
  put_value t p = subst (λ (u : ValueType). Put d e o r (or_nothing (λ v. escaped (value_characters v)) (read_value ical u l))) (from_binary_lem t) p

-- the choice of a type, with the rule of one type beside it
pub ruleset placing = (put_type, put_next, rules)
