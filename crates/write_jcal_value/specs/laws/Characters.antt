-- The characters of a value as they stand in a JSON string: the rules for each way that the code goes.
--     put_unknown_read, put_unknown_unread           a value of no known type
--     put_uri, put_address, put_text, put_unknown    what the writer of each type puts is that
--     put_other      the other types have no character that is escaped in XML or in JSON
--     put_at         the type by its number
use Rattle.std.specs.Prelude.{◌≡◌, refl, Bool, true, false, List, ℕ, ◌*◌, ◌^◌, ◌≤◌, ◌<◌, eqb, length, Option, None, Some, option_map}
use Rattle.std.proofs.Math.Path.{sym, subst}
use Rattle.std.proofs.Common.{◌∙◌, arith, ne_eqb}
use Rattle.std.proofs.lemmas.Bool.{false≢true}
use Rattle.std.proofs.Math.ListN.{get_or-eq_default}
use Rattle.octets.specs.Pick.{pick, ◌or◌}
use Rattle.octets.specs.Reading.{provided, or_nothing}
use Rattle.calendar.specs.Calendar.{ical, ValueType, BINARY, BOOLEAN, CAL-ADDRESS, DATE, DATE-TIME, DURATION, FLOAT, INTEGER, PERIOD, RECUR, TEXT, TIME, URI, UTC-OFFSET, UNKNOWN}
use Rattle.calendar.specs.Calendar.{Value, binary, boolean, cal_address, date, date_time, duration, float, integer, recur, text, time, uri, utc_offset, unknown}
use Rattle.sink.specs.Sink.{Put}
use Rattle.sink.specs.laws.Sink.{put_none}
use Rattle.schema.specs.Types.{value_types, type_place}
use Rattle.schema.specs.Numbers.{type_at}
use Rattle.schema.specs.laws.Places.{type_back}
use Rattle.times.specs.Date.{read_date}
use Rattle.times.specs.Time.{read_time}
use Rattle.times.specs.DateTime.{read_date_time}
use Rattle.times.specs.Duration.{read_duration}
use Rattle.times.specs.UtcOffset.{read_utc_offset}
use Rattle.times.specs.laws.Period.{period_accepted}
use Rattle.numbers.specs.Integer.{read_integer}
use Rattle.numbers.specs.Float.{read_float}
use Rattle.numbers.specs.Boolean.{read_boolean}
use Rattle.texts.specs.Text.{read_text}
use Rattle.texts.specs.Uri.{is_uri, read_uri}
use Rattle.texts.specs.Binary.{read_binary}
use Rattle.texts.specs.Unknown.{is_unknown, read_unknown}
use Rattle.texts.specs.Chars.{as_is}
use Rattle.recur.specs.Rule.{read_rule}
use Rattle.values.specs.ReadValue.{read_value}
use Rattle.values.specs.WriteValue.{value_characters}
use Rattle.values.specs.laws.ReadBack.{made}
use Rattle.values.specs.laws.Bare.{date_bare, time_bare, date_time_bare, duration_bare, offset_bare, integer_bare, float_bare, boolean_bare, binary_bare}
use Rattle.xml.specs.Escape.{escaped as entities}
use Rattle.json_text.specs.Write.{escaped}
use Rattle.jcal.proofs.laws.Plain.{date_plain, time_plain, date_time_plain, duration_plain, offset_plain, integer_plain, float_plain, boolean_plain, binary_plain, uri_plain}

-- ---- what is read and kept as it stands

module _ {d : List ℕ} {at : ℕ} {t : Bool} (l : List ℕ) (h : t ≡ is_unknown l) where
  pub put_unknown_read : {e : List ℕ} {r : ℕ} → t ≡ true → Put d e at r (escaped l) → Put d e at r (or_nothing escaped (read_unknown l))
  unfolding pick
  put_unknown_read k p = rw (sym h ∙ k) p

  pub put_unknown_unread : t ≡ false → length d * 1 < 2 ^ 63 → Put d d at at (or_nothing escaped (read_unknown l))
  unfolding pick
  put_unknown_unread k z = rw (sym h ∙ k) (put_none d at z)

mapped : (g : List ℕ → Value) → ((s : List ℕ) → value_characters (g s) ≡ s) → (o : Option (List ℕ)) → or_nothing escaped o ≡ or_nothing (λ v. escaped (value_characters v)) (option_map g o)
mapped g k None = refl
mapped g k (Some s) = rw (k s)

uri_mapped : (g : List ℕ → Value) → ((s : List ℕ) → value_characters (g s) ≡ s) → (l : List ℕ) → or_nothing as_is (read_uri l) ≡ or_nothing (λ v. escaped (value_characters v)) (option_map g (read_uri l))
unfolding pick
uri_mapped g k l = go (is_uri l) refl
  where
    go : (t : Bool) → is_uri l ≡ t → or_nothing as_is (provided t l) ≡ or_nothing (λ v. escaped (value_characters v)) (option_map g (provided t l))
    go true e = sym (rw (k l) (uri_plain l e))
    go false e = refl

module _ {d e : List ℕ} {o r : ℕ} (l : List ℕ) where
  pub put_uri : Put d e o r (or_nothing as_is (read_uri l)) → Put d e o r (or_nothing (λ v. escaped (value_characters v)) (read_value ical URI l))
  unfolding read_value value_characters
  put_uri p = subst (Put d e o r) (uri_mapped uri (λ s. refl) l) p

  pub put_address : Put d e o r (or_nothing as_is (read_uri l)) → Put d e o r (or_nothing (λ v. escaped (value_characters v)) (read_value ical CAL-ADDRESS l))
  unfolding read_value value_characters
  put_address p = subst (Put d e o r) (uri_mapped cal_address (λ s. refl) l) p

  pub put_text : Put d e o r (or_nothing escaped (read_text l)) → Put d e o r (or_nothing (λ v. escaped (value_characters v)) (read_value ical TEXT l))
  unfolding read_value value_characters
  put_text p = subst (Put d e o r) (mapped text (λ s. refl) (read_text l)) p

  pub put_unknown : Put d e o r (or_nothing escaped (read_unknown l)) → Put d e o r (or_nothing (λ v. escaped (value_characters v)) (read_value ical UNKNOWN l))
  unfolding read_value value_characters
  put_unknown p = subst (Put d e o r) (mapped unknown (λ s. refl) (read_unknown l)) p

-- ---- the other types

-- types whose values have characters that XML or JSON escapes: CAL-ADDRESS (2), TEXT (10), URI (12), and those of no known type (14)
abbrev is_free : ValueType → Bool
is_free u = eqb (type_place u) 2 or eqb (type_place u) 10 or eqb (type_place u) 12 or eqb (type_place u) 14

abbrev Alike : Value → Type 0
Alike v = entities (value_characters v) ≡ escaped (value_characters v)

alike : (u : ValueType) (l : List ℕ) (v : Value) → is_free u ≡ false → read_value ical u l ≡ Some v → Alike v
unfolding read_value value_characters entities escaped ◌or◌
alike BINARY l v m h = made Alike binary (read_binary ical l) v h (λ a e. binary_bare l a e ∙ sym (binary_plain l a e))
alike BOOLEAN l v m h = made Alike boolean (read_boolean ical l) v h (λ a e. boolean_bare a ∙ sym (boolean_plain a))
alike CAL-ADDRESS l v m h = absurd (false≢true (sym m))
alike DATE l v m h = made Alike date (read_date ical l) v h (λ a e. date_bare l a e ∙ sym (date_plain l a e))
alike DATE-TIME l v m h = made Alike date_time (read_date_time ical l) v h (λ a e. date_time_bare l a e ∙ sym (date_time_plain l a e))
alike DURATION l v m h = made Alike duration (read_duration ical l) v h (λ a e. duration_bare l a e ∙ sym (duration_plain l a e))
alike FLOAT l v m h = made Alike float (read_float l) v h (λ a e. float_bare l a e ∙ sym (float_plain l a e))
alike INTEGER l v m h = made Alike integer (read_integer l) v h (λ a e. integer_bare a ∙ sym (integer_plain a))
alike PERIOD l v m h = period_accepted Alike (λ a z h k. refl) (λ a z h k. refl) l v h
alike RECUR l v m h = made Alike recur (read_rule l) v h (λ a e. refl)
alike TEXT l v m h = absurd (false≢true (sym m))
alike TIME l v m h = made Alike time (read_time ical l) v h (λ a e. time_bare l a e ∙ sym (time_plain l a e))
alike URI l v m h = absurd (false≢true (sym m))
alike UTC-OFFSET l v m h = made Alike utc_offset (read_utc_offset ical l) v h (λ a e. offset_bare l a e ∙ sym (offset_plain l a e))
alike UNKNOWN l v m h = absurd (false≢true (sym m))

not_free : (t : ℕ) → (t ≡ 2 → ⊥) → (t ≡ 10 → ⊥) → (t ≡ 12 → ⊥) → t < 14 → is_free (type_at t) ≡ false
unfolding ◌or◌
not_free t a b c h = rw (type_back t (omega arith), ne_eqb t 2 a, ne_eqb t 10 b, ne_eqb t 12 c, ne_eqb t 14 (λ e. omega arith))

beyond_unknown : (t : ℕ) → 14 ≤ t → type_at t ≡ UNKNOWN
beyond_unknown t h = get_or-eq_default value_types UNKNOWN h

module _ {d e : List ℕ} {o r : ℕ} (t : ℕ) (l : List ℕ) where
  pub put_other : (t ≡ 2 → ⊥) → (t ≡ 10 → ⊥) → (t ≡ 12 → ⊥) → t < 14 → Put d e o r (or_nothing (λ v. entities (value_characters v)) (read_value ical (type_at t) l)) →
      Put d e o r (or_nothing (λ v. escaped (value_characters v)) (read_value ical (type_at t) l))
  put_other a b c h p = go (read_value ical (type_at t) l) refl p
    where
      go : (u : Option Value) → read_value ical (type_at t) l ≡ u → Put d e o r (or_nothing (λ v. entities (value_characters v)) u) → Put d e o r (or_nothing (λ v. escaped (value_characters v)) u)
      go None z p = p
      go (Some v) z p = rw (← (alike (type_at t) l v (not_free t a b c h) z)) p

  -- the type by its number
  pub put_at : (k : ℕ) → t ≡ k → Put d e o r (or_nothing (λ v. escaped (value_characters v)) (read_value ical (type_at k) l)) → Put d e o r (or_nothing (λ v. escaped (value_characters v)) (read_value ical (type_at t) l))
  put_at k h p = rw h p

  pub put_beyond : 14 ≤ t → Put d e o r (or_nothing (λ v. escaped (value_characters v)) (read_value ical UNKNOWN l)) → Put d e o r (or_nothing (λ v. escaped (value_characters v)) (read_value ical (type_at t) l))
  put_beyond h p = rw (beyond_unknown t h) p
