-- A value of iCalendar text as its element: the rules for each way that the code goes.
--     put_recur, put_no_recur     RECUR
--     put_plain, put_no_plain     a type that has character data
--     put_at                      the type by its number
use Rattle.std.specs.Prelude.{◌≡◌, Bool, List, [], ℕ, zero, suc, Option, None, Some, option_map, is_some}
use Rattle.std.proofs.Math.Path.{refl, ap}
use Rattle.std.proofs.Common.{sym, ◌∙◌}
use Rattle.std.proofs.Math.Bool.{true, false}
use Rattle.std.proofs.lemmas.Bool.{false≢true}
use Rattle.octets.specs.Ascii.{ascii}
use Rattle.octets.specs.Class.{lower}
use Rattle.octets.specs.Words.{cut_at}
use Rattle.octets.specs.Reading.{is_read, or_nothing}
use Rattle.octets.specs.laws.Reading.{none-some}
use Rattle.calendar.specs.Calendar.{ical, ValueType, BINARY, BOOLEAN, CAL-ADDRESS, DATE, DATE-TIME, DURATION, FLOAT, INTEGER, PERIOD, RECUR, TEXT, TIME, URI, UTC-OFFSET, UNKNOWN}
use Rattle.calendar.specs.Calendar.{RulePart, Value, binary, boolean, cal_address, date, date_time, duration, float, integer, recur, text, time, uri, utc_offset, unknown}
use Rattle.sink.specs.Sink.{Put}
use Rattle.source.specs.Source.{rest}
use Rattle.schema.specs.Types.{type_name}
use Rattle.schema.specs.Numbers.{type_at}
use Rattle.times.specs.Date.{read_date}
use Rattle.times.specs.Time.{read_time}
use Rattle.times.specs.DateTime.{read_date_time}
use Rattle.times.specs.Duration.{read_duration}
use Rattle.times.specs.UtcOffset.{read_utc_offset}
use Rattle.numbers.specs.Integer.{read_integer}
use Rattle.numbers.specs.Float.{read_float}
use Rattle.numbers.specs.Boolean.{read_boolean}
use Rattle.texts.specs.Text.{read_text}
use Rattle.texts.specs.Uri.{read_uri}
use Rattle.texts.specs.Binary.{read_binary}
use Rattle.texts.specs.Unknown.{read_unknown}
use Rattle.recur.specs.Parts.{part_names}
use Rattle.recur.specs.Rule.{read_rule}
use Rattle.recur.specs.Noted.{Parted}
use Rattle.values.specs.ReadValue.{read_value}
use Rattle.values.specs.WriteValue.{value_characters}
use Rattle.xml.specs.Escape.{escaped, element_of}
use Rattle.xcal.specs.WriteXml.{value_xml}
use Rattle.write_xml_value.specs.Tags.{type_label}
use Rattle.write_xml_value.specs.Rules.{named_xml}
use Rattle.write_xml_value.specs.laws.Rules.{rule_xml}
use Rattle.write_xml_value.specs.laws.PutRule.{nothing_read}

-- ---- RECUR

module _ {d e : List ℕ} {o q : ℕ} {m : ℕ} {s : List ℕ} {c : ℕ} {r : Option (List (Option ℕ))} (p : Parted m s c r) where
  pub put_recur : {t : List (Option ℕ)} → r ≡ Some t → Put d e o q (element_of (ascii "recur") (named_xml part_names (cut_at 59 (rest m s c)))) → Put d e o q (or_nothing value_xml (read_value ical RECUR (rest m s c)))
  unfolding read_value value_xml is_read
  put_recur h w = go (read_rule (rest m s c)) refl (p.is ∙ ap is_some h)
    where
      go : (u : Option (List RulePart)) → read_rule (rest m s c) ≡ u → is_read u ≡ true → Put d e o q (or_nothing value_xml (option_map recur u))
      go None k z = absurd (false≢true z)
      go (Some v) k z = rw (rule_xml (rest m s c) v k) w

  pub put_no_recur : r ≡ None → Put d e o q [] → Put d e o q (or_nothing value_xml (read_value ical RECUR (rest m s c)))
  unfolding read_value is_read
  put_no_recur h w = go (read_rule (rest m s c)) (p.is ∙ ap is_some h)
    where
      go : (u : Option (List RulePart)) → is_read u ≡ false → Put d e o q (or_nothing value_xml (option_map recur u))
      go None z = w
      go (Some v) z = absurd (false≢true (sym z))

-- ---- a type that has character data

-- PERIOD and RECUR are made of elements
abbrev is_made : ValueType → Bool
is_made BINARY = false
is_made BOOLEAN = false
is_made CAL-ADDRESS = false
is_made DATE = false
is_made DATE-TIME = false
is_made DURATION = false
is_made FLOAT = false
is_made INTEGER = false
is_made PERIOD = true
is_made RECUR = true
is_made TEXT = false
is_made TIME = false
is_made URI = false
is_made UTC-OFFSET = false
is_made UNKNOWN = false

mapped : {A : Type 0} (n : List ℕ) (g : A → Value) → ((a : A) → value_xml (g a) ≡ element_of n (escaped (value_characters (g a)))) → (u : Option A) (v : Value) → option_map g u ≡ Some v →
    value_xml v ≡ element_of n (escaped (value_characters v))
mapped n g k None v h = none-some h
mapped n g k (Some a) v h = let z : g a ≡ v = cc in rw (← z) (k a)

plain : (u : ValueType) (l : List ℕ) (v : Value) → is_made u ≡ false → read_value ical u l ≡ Some v → value_xml v ≡ element_of (lower (type_name u)) (escaped (value_characters v))
unfolding read_value value_xml
plain BINARY l v m h = mapped _ binary (λ a. refl) (read_binary ical l) v h
plain BOOLEAN l v m h = mapped _ boolean (λ a. refl) (read_boolean ical l) v h
plain CAL-ADDRESS l v m h = mapped _ cal_address (λ a. refl) (read_uri l) v h
plain DATE l v m h = mapped _ date (λ a. refl) (read_date ical l) v h
plain DATE-TIME l v m h = mapped _ date_time (λ a. refl) (read_date_time ical l) v h
plain DURATION l v m h = mapped _ duration (λ a. refl) (read_duration ical l) v h
plain FLOAT l v m h = mapped _ float (λ a. refl) (read_float l) v h
plain INTEGER l v m h = mapped _ integer (λ a. refl) (read_integer l) v h
plain PERIOD l v m h = absurd (false≢true (sym m))
plain RECUR l v m h = absurd (false≢true (sym m))
plain TEXT l v m h = mapped _ text (λ a. refl) (read_text l) v h
plain TIME l v m h = mapped _ time (λ a. refl) (read_time ical l) v h
plain URI l v m h = mapped _ uri (λ a. refl) (read_uri l) v h
plain UTC-OFFSET l v m h = mapped _ utc_offset (λ a. refl) (read_utc_offset ical l) v h
plain UNKNOWN l v m h = mapped _ unknown (λ a. refl) (read_unknown l) v h

not_made : (t : ℕ) → (t ≡ 8 → ⊥) → (t ≡ 9 → ⊥) → is_made (type_at t) ≡ false
not_made zero a b = refl
not_made (suc zero) a b = refl
not_made (suc (suc zero)) a b = refl
not_made (suc (suc (suc zero))) a b = refl
not_made (suc (suc (suc (suc zero)))) a b = refl
not_made (suc (suc (suc (suc (suc zero))))) a b = refl
not_made (suc (suc (suc (suc (suc (suc zero)))))) a b = refl
not_made (suc (suc (suc (suc (suc (suc (suc zero))))))) a b = refl
not_made (suc (suc (suc (suc (suc (suc (suc (suc zero)))))))) a b = absurd (a refl)
not_made (suc (suc (suc (suc (suc (suc (suc (suc (suc zero))))))))) a b = absurd (b refl)
not_made (suc (suc (suc (suc (suc (suc (suc (suc (suc (suc zero)))))))))) a b = refl
not_made (suc (suc (suc (suc (suc (suc (suc (suc (suc (suc (suc zero))))))))))) a b = refl
not_made (suc (suc (suc (suc (suc (suc (suc (suc (suc (suc (suc (suc zero)))))))))))) a b = refl
not_made (suc (suc (suc (suc (suc (suc (suc (suc (suc (suc (suc (suc (suc zero))))))))))))) a b = refl
not_made (suc (suc (suc (suc (suc (suc (suc (suc (suc (suc (suc (suc (suc (suc t)))))))))))))) a b = refl

module _ {d e : List ℕ} {o q : ℕ} (t : ℕ) (l : List ℕ) {r : Option ℕ} (p : is_read (read_value ical (type_at t) l) ≡ is_some r) where
  pub put_plain : {k : ℕ} → (t ≡ 8 → ⊥) → (t ≡ 9 → ⊥) → r ≡ Some k →
      Put d e o q (element_of (type_label t) (or_nothing (λ v. escaped (value_characters v)) (read_value ical (type_at t) l))) → Put d e o q (or_nothing value_xml (read_value ical (type_at t) l))
  unfolding is_read
  put_plain a b h w = go (read_value ical (type_at t) l) refl (p ∙ ap is_some h) w
    where
      go : (u : Option Value) → read_value ical (type_at t) l ≡ u → is_read u ≡ true → Put d e o q (element_of (type_label t) (or_nothing (λ v. escaped (value_characters v)) u)) → Put d e o q (or_nothing value_xml u)
      go None k z w = absurd (false≢true z)
      go (Some v) k z w = rw (plain (type_at t) l v (not_made t a b) k) w

  pub put_no_plain : r ≡ None → Put d e o q [] → Put d e o q (or_nothing value_xml (read_value ical (type_at t) l))
  put_no_plain h w = nothing_read value_xml (read_value ical (type_at t) l) (p ∙ ap is_some h) w

-- ---- the type by its number

pub put_at : {d e : List ℕ} {o q : ℕ} (t k : ℕ) (l : List ℕ) → t ≡ k → Put d e o q (or_nothing value_xml (read_value ical (type_at k) l)) → Put d e o q (or_nothing value_xml (read_value ical (type_at t) l))
put_at t k l h w = rw h w
