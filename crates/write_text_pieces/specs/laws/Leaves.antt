-- Laws of what specs/Leaves.antt defines.
--     put_..         what the writer of each type puts is that;   placing: the choice of a type
use Rattle.std.specs.Prelude.{◌≡◌, refl, Bool, List, [], ℕ, eqb, Option, None, Some, option_map}
use Rattle.std.proofs.Common.{sym, rules, eq-eqb, ne_eqb}
use Rattle.std.proofs.Math.Path.{subst}
use Rattle.octets.specs.Pick.{pick}
use Rattle.octets.specs.Reading.{read_or, or_nothing}
use Rattle.calendar.specs.Calendar.{ical, xcal, ValueType, BINARY, BOOLEAN, CAL-ADDRESS, DATE, DATE-TIME, DURATION, FLOAT, INTEGER, PERIOD, RECUR, TEXT, TIME, URI, UTC-OFFSET, UNKNOWN}
use Rattle.calendar.specs.Calendar.{Value, binary, cal_address, date, date_time, duration, float, integer, text, time, uri, utc_offset, unknown}
use Rattle.sink.specs.Sink.{Put}
use Rattle.schema.specs.Numbers.{type_at}
use Rattle.times.specs.Date.{read_date, write_date}
use Rattle.times.specs.Time.{read_time, write_time}
use Rattle.times.specs.DateTime.{read_date_time, write_date_time}
use Rattle.times.specs.Duration.{read_duration, write_duration}
use Rattle.times.specs.UtcOffset.{read_utc_offset, write_utc_offset}
use Rattle.numbers.specs.Integer.{read_integer, write_integer}
use Rattle.numbers.specs.Float.{read_float, write_float}
use Rattle.numbers.specs.Boolean.{read_boolean, write_boolean}
use Rattle.texts.specs.Text.{write_text}
use Rattle.texts.specs.Uri.{read_uri}
use Rattle.texts.specs.Binary.{read_binary}
use Rattle.texts.specs.Unknown.{read_unknown}
use Rattle.texts.specs.Chars.{as_is}
use Rattle.values.specs.ReadValue.{read_value}
use Rattle.values.specs.WriteValue.{write_value}
use Rattle.values.specs.ValueAt.{from_binary}
use Rattle.values.specs.laws.ValueAt.{from_binary_lem}
use Rattle.write_text_pieces.specs.Leaves.{value_text}

-- what is not read counts as an empty text, of which nothing is written
pub value_or : (o : Option Value) → value_text o ≡ write_value (read_or (text []) o)
unfolding value_text read_or write_value write_text
value_or None = refl
value_or (Some v) = refl

mapped : {A : Type 0} (g : A → Value) (w : A → List ℕ) (o : Option A) → ((a : A) → write_value (g a) ≡ w a) → or_nothing w o ≡ value_text (option_map g o)
unfolding value_text
mapped g w None k = refl
mapped g w (Some a) k = sym (k a)

module _ {d e : List ℕ} {o r : ℕ} (l : List ℕ) where
  pub put_date : Put d e o r (or_nothing (write_date ical) (read_date xcal l)) → Put d e o r (value_text (read_value xcal DATE l))
  unfolding read_value write_value
  put_date p = subst (Put d e o r) (mapped date (write_date ical) (read_date xcal l) (λ a. refl)) p

  pub put_time : Put d e o r (or_nothing (write_time ical) (read_time xcal l)) → Put d e o r (value_text (read_value xcal TIME l))
  unfolding read_value write_value
  put_time p = subst (Put d e o r) (mapped time (write_time ical) (read_time xcal l) (λ a. refl)) p

  pub put_date_time : Put d e o r (or_nothing (write_date_time ical) (read_date_time xcal l)) → Put d e o r (value_text (read_value xcal DATE-TIME l))
  unfolding read_value write_value
  put_date_time p = subst (Put d e o r) (mapped date_time (write_date_time ical) (read_date_time xcal l) (λ a. refl)) p

  pub put_duration : Put d e o r (or_nothing (write_duration ical) (read_duration xcal l)) → Put d e o r (value_text (read_value xcal DURATION l))
  unfolding read_value write_value
  put_duration p = subst (Put d e o r) (mapped duration (write_duration ical) (read_duration xcal l) (λ a. refl)) p

  pub put_offset : Put d e o r (or_nothing (write_utc_offset ical) (read_utc_offset xcal l)) → Put d e o r (value_text (read_value xcal UTC-OFFSET l))
  unfolding read_value write_value
  put_offset p = subst (Put d e o r) (mapped utc_offset (write_utc_offset ical) (read_utc_offset xcal l) (λ a. refl)) p

  pub put_integer : Put d e o r (or_nothing write_integer (read_integer l)) → Put d e o r (value_text (read_value xcal INTEGER l))
  unfolding read_value write_value
  put_integer p = subst (Put d e o r) (mapped integer write_integer (read_integer l) (λ a. refl)) p

  pub put_float : Put d e o r (or_nothing write_float (read_float l)) → Put d e o r (value_text (read_value xcal FLOAT l))
  unfolding read_value write_value
  put_float p = subst (Put d e o r) (mapped float write_float (read_float l) (λ a. refl)) p

  pub put_binary : Put d e o r (or_nothing as_is (read_binary xcal l)) → Put d e o r (value_text (read_value xcal BINARY l))
  unfolding read_value write_value
  put_binary p = subst (Put d e o r) (mapped binary as_is (read_binary xcal l) (λ a. refl)) p

  pub put_uri : Put d e o r (or_nothing as_is (read_uri l)) → Put d e o r (value_text (read_value xcal URI l))
  unfolding read_value write_value
  put_uri p = subst (Put d e o r) (mapped uri as_is (read_uri l) (λ a. refl)) p

  pub put_address : Put d e o r (or_nothing as_is (read_uri l)) → Put d e o r (value_text (read_value xcal CAL-ADDRESS l))
  unfolding read_value write_value
  put_address p = subst (Put d e o r) (mapped cal_address as_is (read_uri l) (λ a. refl)) p

  pub put_unknown : Put d e o r (or_nothing as_is (read_unknown l)) → Put d e o r (value_text (read_value xcal UNKNOWN l))
  unfolding read_value write_value
  put_unknown p = subst (Put d e o r) (mapped unknown as_is (read_unknown l) (λ a. refl)) p

  -- any characters are a TEXT
  pub put_text : Put d e o r (write_text l) → Put d e o r (value_text (read_value xcal TEXT l))
  unfolding read_value write_value value_text
  put_text p = p

  -- PERIOD and RECUR are made of elements
  pub put_period : Put d e o r [] → Put d e o r (value_text (read_value xcal PERIOD l))
  unfolding read_value value_text
  put_period p = p

  pub put_rule : Put d e o r [] → Put d e o r (value_text (read_value xcal RECUR l))
  unfolding read_value value_text
  put_rule p = p

  -- a BOOLEAN that was read
  module _ {b : Option Bool} (q : read_boolean xcal l ≡ b) where
    pub put_truth : {t : Bool} → b ≡ Some t → Put d e o r (write_boolean ical t) → Put d e o r (value_text (read_value xcal BOOLEAN l))
    unfolding read_value value_text write_value
    put_truth {t} h p = rw (q, h) p

    pub put_no_truth : b ≡ None → Put d e o r [] → Put d e o r (value_text (read_value xcal BOOLEAN l))
    unfolding read_value value_text
    put_no_truth h p = rw (q, h) p

  -- ---- the choice of a type

  module _ (t k : ℕ) (x z : ValueType) where
    pub put_type : t ≡ k → Put d e o r (value_text (read_value xcal x l)) → Put d e o r (value_text (read_value xcal (pick (eqb t k) x z) l))
    unfolding pick
    put_type h p = rw (eq-eqb t k h) p

    pub put_next : (t ≡ k → ⊥) → Put d e o r (value_text (read_value xcal z l)) → Put d e o r (value_text (read_value xcal (pick (eqb t k) x z) l))
    unfolding pick
    put_next h p = rw (ne_eqb t k h) p

  pub put_value : (t : ℕ) → Put d e o r (value_text (read_value xcal (from_binary t) l)) → Put d e o r (value_text (read_value xcal (type_at t) l))
  put_value t p = subst (λ (u : ValueType). Put d e o r (value_text (read_value xcal u l))) (from_binary_lem t) p

-- the choice of a type, with the rule of one type beside it
pub ruleset placing = (put_type, put_next, rules)
