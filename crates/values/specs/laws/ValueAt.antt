-- Laws of what specs/ValueAt.antt defines.
--     good_value, good_yes, good_no   whether a value was read
--     at_plain, at_cut, value_there  `is_read_at` is what `read_value` says: of any type but RECUR; in XML, and in an encoding that can be cut
--     from_binary_lem  it is the type at that place
--     mapped           what was read, made into another thing
--     date_is ..       there is a value of the type where the reader of the type says so
--     choosing         the rules for the choice of a type
use Rattle.numbers.specs.declared.float.Float.{Float}
use Rattle.numbers.specs.declared.integer.Integer.{Integer}
use Rattle.times.specs.declared.period.Period.{Period}
use Rattle.times.specs.declared.offset.UtcOffset.{UtcOffset}
use Rattle.times.specs.declared.duration.Duration.{Duration}
use Rattle.times.specs.declared.date_time.DateTime.{DateTime}
use Rattle.times.specs.declared.time.Time.{Time}
use Rattle.times.specs.declared.date.Date.{Date}
use Rattle.std.specs.Prelude.{◌≡◌, Bool, true, not, List, eqb, Option, None, Some, option_map, is_some}
use Rattle.std.proofs.Math.Path.{refl, sym}
use Rattle.std.proofs.Common.{ap, ◌∙◌, arith, rules, eq-eqb, ne_eqb}
use Rattle.std.proofs.Math.Bool.{false}
use Prim.Native.Nat.{ℕ, zero, suc, ◌≤◌}
use Rattle.octets.specs.Pick.{pick, ◌and◌, ◌or◌}
use Rattle.octets.specs.laws.Pick.{or_right}
use Rattle.octets.specs.Reading.{is_read}
use Rattle.calendar.specs.Calendar.{ical, Format, format_of, ValueType, BINARY, BOOLEAN, CAL-ADDRESS, DATE, DATE-TIME, DURATION, FLOAT, INTEGER, PERIOD, RECUR, TEXT, TIME, URI, UTC-OFFSET, UNKNOWN, date, date_time, time, utc_offset, duration, boolean, integer, float}
use Rattle.source.specs.Source.{cuts}
use Rattle.schema.specs.Types.{type_place}
use Rattle.schema.specs.Numbers.{type_at}
use Rattle.times.specs.Date.{read_date}
use Rattle.times.specs.DateAlong.{day_of}
use Rattle.times.specs.Time.{read_time}
use Rattle.times.specs.TimeAlong.{clock_of}
use Rattle.times.specs.DateTime.{read_date_time}
use Rattle.times.specs.DateTimeAlong.{moment_of}
use Rattle.times.specs.Duration.{read_duration}
use Rattle.times.specs.DurationAt.{span_of}
use Rattle.times.specs.UtcOffset.{read_utc_offset}
use Rattle.times.specs.OffsetAlong.{shift_of}
use Rattle.times.specs.Period.{read_period}
use Rattle.times.specs.PeriodAt.{Periods}
use Rattle.numbers.specs.Boolean.{read_boolean}
use Rattle.numbers.specs.Integer.{read_integer}
use Rattle.numbers.specs.ReadInteger.{whole_of}
use Rattle.numbers.specs.Float.{read_float}
use Rattle.numbers.specs.ReadFloat.{float_of}
use Rattle.texts.specs.Text.{read_text}
use Rattle.texts.specs.Uri.{is_uri}
use Rattle.texts.specs.Binary.{binary_chars, is_binary}
use Rattle.texts.specs.Unknown.{is_unknown}
use Rattle.recur.specs.Rule.{read_rule}
use Rattle.values.specs.ReadValue.{read_value}
use Rattle.values.specs.ValueAt.{value_read, is_read_at, from_binary}

pub good_value : (t : ℕ) (b : Bool) {r : Option ℕ} → r ≡ value_read t b → b ≡ is_some r
good_value t true e = rw e
good_value t false e = rw e

module _ {b : Bool} {r : Option ℕ} (t : ℕ) (e : r ≡ value_read t b) where
  pub good_yes : {n : ℕ} → r ≡ Some n → true ≡ b
  good_yes h = sym (good_value t b e ∙ rw h)

  pub good_no : r ≡ None → false ≡ b
  good_no h = sym (good_value t b e ∙ rw h)

-- ---- the type of a number

-- a number that is none of the fourteen
other : (t : ℕ) → 14 ≤ t → from_binary t ≡ UNKNOWN
unfolding pick
other t h =
    rw (
      ne_eqb t 0 (λ e. omega arith),
      ne_eqb t 1 (λ e. omega arith),
      ne_eqb t 2 (λ e. omega arith),
      ne_eqb t 3 (λ e. omega arith),
      ne_eqb t 4 (λ e. omega arith),
      ne_eqb t 5 (λ e. omega arith),
      ne_eqb t 6 (λ e. omega arith),
      ne_eqb t 7 (λ e. omega arith),
      ne_eqb t 8 (λ e. omega arith),
      ne_eqb t 9 (λ e. omega arith),
      ne_eqb t 10 (λ e. omega arith),
      ne_eqb t 11 (λ e. omega arith),
      ne_eqb t 12 (λ e. omega arith),
      ne_eqb t 13 (λ e. omega arith),
    )

pub from_binary_lem : (t : ℕ) → from_binary t ≡ type_at t
unfolding pick
from_binary_lem zero = refl
from_binary_lem (suc zero) = refl
from_binary_lem (suc (suc zero)) = refl
from_binary_lem (suc (suc (suc zero))) = refl
from_binary_lem (suc (suc (suc (suc zero)))) = refl
from_binary_lem (suc (suc (suc (suc (suc zero))))) = refl
from_binary_lem (suc (suc (suc (suc (suc (suc zero)))))) = refl
from_binary_lem (suc (suc (suc (suc (suc (suc (suc zero))))))) = refl
from_binary_lem (suc (suc (suc (suc (suc (suc (suc (suc zero)))))))) = refl
from_binary_lem (suc (suc (suc (suc (suc (suc (suc (suc (suc zero))))))))) = refl
from_binary_lem (suc (suc (suc (suc (suc (suc (suc (suc (suc (suc zero)))))))))) = refl
from_binary_lem (suc (suc (suc (suc (suc (suc (suc (suc (suc (suc (suc zero))))))))))) = refl
from_binary_lem (suc (suc (suc (suc (suc (suc (suc (suc (suc (suc (suc (suc zero)))))))))))) = refl
from_binary_lem (suc (suc (suc (suc (suc (suc (suc (suc (suc (suc (suc (suc (suc zero))))))))))))) = refl
from_binary_lem (suc (suc (suc (suc (suc (suc (suc (suc (suc (suc (suc (suc (suc (suc n)))))))))))))) = other (suc (suc (suc (suc (suc (suc (suc (suc (suc (suc (suc (suc (suc (suc n)))))))))))))) (omega arith)

-- ---- in an encoding

pub at_plain : {b : Bool} (x : Bool) (m : ℕ) (t : ValueType) (l : List ℕ) → eqb (type_place t) 9 ≡ false → b ≡ is_read (read_value (format_of x) t l) → b ≡ is_read_at x m t l
unfolding is_read_at ◌and◌
at_plain x m t l h e = rw (or_right x _ (or_right (cuts m) (not (eqb (type_place t) 9)) (rw h))) e

pub at_cut : (x : Bool) (m : ℕ) (t : ValueType) (l : List ℕ) → (x ≡ false → cuts m ≡ true) → is_read_at x m t l ≡ is_read (read_value (format_of x) t l)
unfolding is_read_at ◌and◌ ◌or◌
at_cut true m t l h = refl
at_cut false m t l h = rw (h refl)

-- another than RECUR, by its number
not_rule : (t : ℕ) → (t ≡ 9 → ⊥) → eqb (type_place (type_at t)) 9 ≡ false
not_rule zero n = refl
not_rule (suc zero) n = refl
not_rule (suc (suc zero)) n = refl
not_rule (suc (suc (suc zero))) n = refl
not_rule (suc (suc (suc (suc zero)))) n = refl
not_rule (suc (suc (suc (suc (suc zero))))) n = refl
not_rule (suc (suc (suc (suc (suc (suc zero)))))) n = refl
not_rule (suc (suc (suc (suc (suc (suc (suc zero))))))) n = refl
not_rule (suc (suc (suc (suc (suc (suc (suc (suc zero)))))))) n = refl
not_rule (suc (suc (suc (suc (suc (suc (suc (suc (suc zero))))))))) n = absurd (n refl)
not_rule (suc (suc (suc (suc (suc (suc (suc (suc (suc (suc zero)))))))))) n = refl
not_rule (suc (suc (suc (suc (suc (suc (suc (suc (suc (suc (suc zero))))))))))) n = refl
not_rule (suc (suc (suc (suc (suc (suc (suc (suc (suc (suc (suc (suc zero)))))))))))) n = refl
not_rule (suc (suc (suc (suc (suc (suc (suc (suc (suc (suc (suc (suc (suc zero))))))))))))) n = refl
not_rule (suc (suc (suc (suc (suc (suc (suc (suc (suc (suc (suc (suc (suc (suc t)))))))))))))) n = refl

-- what `read_value` says of it, in any encoding
pub value_plain : {r : Option ℕ} (t m : ℕ) (l : List ℕ) → (t ≡ 9 → ⊥) → r ≡ value_read t (is_read_at false m (type_at t) l) → r ≡ value_read t (is_read (read_value ical (type_at t) l))
value_plain t m l n e = e ∙ ap (value_read t) (sym (at_plain false m (type_at t) l (not_rule t n) refl))

-- what `read_value` says, where the encoding is XML's or can be cut
pub value_there : {r : Option ℕ} (t : ℕ) (x : Bool) (m : ℕ) (u : ValueType) (l : List ℕ) → r ≡ value_read t (is_read_at x m u l) → (x ≡ false → cuts m ≡ true) → r ≡ value_read t (is_read (read_value (format_of x) u l))
value_there t x m u l e h = e ∙ ap (value_read t) (at_cut x m u l h)

-- ---- the choice of a type

module _ {b : Bool} (y : Bool) (m : ℕ) (l : List ℕ) (t k : ℕ) (x z : ValueType) where
  pub type_yes : t ≡ k → b ≡ is_read_at y m x l → b ≡ is_read_at y m (pick (eqb t k) x z) l
  unfolding pick
  type_yes h e = rw (eq-eqb t k h) e

  pub type_no : (t ≡ k → ⊥) → b ≡ is_read_at y m z l → b ≡ is_read_at y m (pick (eqb t k) x z) l
  unfolding pick
  type_no h e = rw (ne_eqb t k h) e

module _ {b : Bool} (y : Bool) (m : ℕ) (l : List ℕ) (t : ℕ) (e : b ≡ is_read_at y m (from_binary t) l) where
  pub value_yes : b ≡ true → Some t ≡ value_read t (is_read_at y m (type_at t) l)
  value_yes h = rw (← (from_binary_lem t), ← e, h)

  pub value_no : b ≡ false → None ≡ value_read t (is_read_at y m (type_at t) l)
  value_no h = rw (← (from_binary_lem t), ← e, h)

-- ---- dates and times

module _ (f : Format) (l : List ℕ) where
  pub date_is : {b : Bool} (r : Option Date) → read_date f l ≡ day_of r → b ≡ is_some r → b ≡ is_read (read_value f DATE l)
  unfolding read_value is_read
  date_is r p h = h ∙ rw p (go r)
    where
      go : (o : Option Date) → is_some o ≡ is_read (option_map date (day_of o))
      go None = refl
      go (Some a) = refl

  pub date_time_is : {b : Bool} (r : Option DateTime) → read_date_time f l ≡ moment_of r → b ≡ is_some r → b ≡ is_read (read_value f DATE-TIME l)
  unfolding read_value is_read
  date_time_is r p h = h ∙ rw p (go r)
    where
      go : (o : Option DateTime) → is_some o ≡ is_read (option_map date_time (moment_of o))
      go None = refl
      go (Some a) = refl

  pub time_is : {b : Bool} (r : Option Time) → read_time f l ≡ clock_of r → b ≡ is_some r → b ≡ is_read (read_value f TIME l)
  unfolding read_value is_read
  time_is r p h = h ∙ rw p (go r)
    where
      go : (o : Option Time) → is_some o ≡ is_read (option_map time (clock_of o))
      go None = refl
      go (Some a) = refl

  pub offset_is : {b : Bool} (r : Option UtcOffset) → read_utc_offset f l ≡ shift_of r → b ≡ is_some r → b ≡ is_read (read_value f UTC-OFFSET l)
  unfolding read_value is_read
  offset_is r p h = h ∙ rw p (go r)
    where
      go : (o : Option UtcOffset) → is_some o ≡ is_read (option_map utc_offset (shift_of o))
      go None = refl
      go (Some a) = refl

pub duration_is : (x : Bool) (m : ℕ) (s l : List ℕ) {b : Bool} (r : Option Duration) → read_duration (format_of x) l ≡ span_of x m s r → b ≡ is_some r → b ≡ is_read (read_value (format_of x) DURATION l)
unfolding read_value is_read
duration_is x m s l r p h = h ∙ rw p (go r)
  where
    go : (o : Option Duration) → is_some o ≡ is_read (option_map duration (span_of x m s o))
    go None = refl
    go (Some a) = refl

-- PERIOD in XML is made of elements
pub period_xml : {x : Bool} (l : List ℕ) → x ≡ true → false ≡ is_read (read_value (format_of x) PERIOD l)
unfolding read_value is_read
period_xml l h = rw h

there : {A : Type 0} (o : Option A) → is_some o ≡ is_read o
unfolding is_read
there None = refl
there (Some a) = refl

pub period_is : {x : Bool} (m : ℕ) (s l : List ℕ) {b : Bool} (r : Option Period) → x ≡ false → Periods (read_period l) m s r → b ≡ is_some r → b ≡ is_read (read_value (format_of x) PERIOD l)
unfolding read_value
period_is m s l r e p h = h ∙ there r ∙ rw e (sym p.good)

-- ---- numbers

module _ (f : Format) (l : List ℕ) where
  pub boolean_is : {b : Bool} {r : Option Bool} → read_boolean f l ≡ r → b ≡ is_some r → b ≡ is_read (read_value f BOOLEAN l)
  unfolding read_value is_read
  boolean_is {b} {r} p h = h ∙ rw p (go r)
    where
      go : (o : Option Bool) → is_some o ≡ is_read (option_map boolean o)
      go None = refl
      go (Some a) = refl

  pub integer_is : {b : Bool} (r : Option Integer) → read_integer l ≡ option_map whole_of r → b ≡ is_some r → b ≡ is_read (read_value f INTEGER l)
  unfolding read_value is_read
  integer_is r p h = h ∙ rw p (go r)
    where
      go : (o : Option Integer) → is_some o ≡ is_read (option_map integer (option_map whole_of o))
      go None = refl
      go (Some a) = refl

  pub float_is : (e m : ℕ) (s : List ℕ) {b : Bool} (r : Option Float) → read_float l ≡ option_map (float_of e m s) r → b ≡ is_some r → b ≡ is_read (read_value f FLOAT l)
  unfolding read_value is_read
  float_is e m s r p h = h ∙ rw p (go r)
    where
      go : (o : Option Float) → is_some o ≡ is_read (option_map float (option_map (float_of e m s) o))
      go None = refl
      go (Some a) = refl

-- ---- characters

-- what is kept is read where the test holds
tested : {A B : Type 0} (g : A → B) (t : Bool) (a : A) → is_read (option_map g (pick t (Some a) None)) ≡ t
unfolding is_read pick
tested g true a = refl
tested g false a = refl

pub mapped : {A B : Type 0} (g : A → B) (o : Option A) → is_read (option_map g o) ≡ is_read o
unfolding is_read
mapped g None = refl
mapped g (Some a) = refl

module _ {b : Bool} (f : Format) (l : List ℕ) where
  pub binary_is : b ≡ is_binary (binary_chars f l) → b ≡ is_read (read_value f BINARY l)
  unfolding read_value
  binary_is p = p ∙ sym (tested _ (is_binary (binary_chars f l)) _)

  pub address_is : b ≡ is_uri l → b ≡ is_read (read_value f CAL-ADDRESS l)
  unfolding read_value
  address_is p = p ∙ sym (tested _ (is_uri l) _)

  pub uri_is : b ≡ is_uri l → b ≡ is_read (read_value f URI l)
  unfolding read_value
  uri_is p = p ∙ sym (tested _ (is_uri l) _)

  pub unknown_is : b ≡ is_unknown l → b ≡ is_read (read_value f UNKNOWN l)
  unfolding read_value
  unknown_is p = p ∙ sym (tested _ (is_unknown l) _)

-- in XML any characters are a TEXT
pub text_xml : {x : Bool} (l : List ℕ) → x ≡ true → true ≡ is_read (read_value (format_of x) TEXT l)
unfolding read_value is_read
text_xml l h = rw h

pub text_is : {b x : Bool} (l : List ℕ) → x ≡ false → b ≡ is_read (read_text l) → b ≡ is_read (read_value (format_of x) TEXT l)
unfolding read_value
text_is l h p = rw h (p ∙ sym (mapped _ (read_text l)))

-- ---- RECUR

pub recur_xml : {x : Bool} (m : ℕ) (l : List ℕ) → x ≡ true → false ≡ is_read_at x m RECUR l
unfolding is_read_at read_value is_read ◌and◌ ◌or◌
recur_xml m l h = rw h

module _ {x : Bool} (m : ℕ) (l : List ℕ) (e : x ≡ false) where
  pub recur_is : {b : Bool} → cuts m ≡ true → b ≡ is_read (read_rule l) → b ≡ is_read_at x m RECUR l
  unfolding read_value
  recur_is h q = sym (at_cut x m RECUR l (λ z. h) ∙ rw e (mapped _ (read_rule l)) ∙ sym q)

  -- in no other encoding
  pub recur_uncut : cuts m ≡ false → false ≡ is_read_at x m RECUR l
  unfolding is_read_at ◌and◌ ◌or◌
  recur_uncut h = rw (e, h) refl

pub ruleset choosing = (type_yes, type_no, value_yes, value_no, at_plain, rules)
