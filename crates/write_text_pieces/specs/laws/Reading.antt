-- The type of what was read.
--     type_of_read     what is read as a type has that type;   type_unread: what is not read counts as a TEXT
use Rattle.std.specs.Prelude.{◌≡◌, refl, true, false, List, [], ℕ, Option, None, Some, option_map}
use Rattle.std.proofs.Common.{sym}
use Rattle.std.proofs.lemmas.Bool.{false≢true}
use Rattle.octets.specs.Reading.{is_read, read_or}
use Rattle.calendar.specs.Calendar.{xcal, ValueType, BINARY, BOOLEAN, CAL-ADDRESS, DATE, DATE-TIME, DURATION, FLOAT, INTEGER, PERIOD, RECUR, TEXT, TIME, URI, UTC-OFFSET, UNKNOWN}
use Rattle.calendar.specs.Calendar.{Value, binary, boolean, cal_address, date, date_time, duration, float, integer, text, time, uri, utc_offset, unknown, type_of}
use Rattle.times.specs.Date.{read_date}
use Rattle.times.specs.Time.{read_time}
use Rattle.times.specs.DateTime.{read_date_time}
use Rattle.times.specs.Duration.{read_duration}
use Rattle.times.specs.UtcOffset.{read_utc_offset}
use Rattle.numbers.specs.Integer.{read_integer}
use Rattle.numbers.specs.Float.{read_float}
use Rattle.numbers.specs.Boolean.{read_boolean}
use Rattle.texts.specs.Uri.{read_uri}
use Rattle.texts.specs.Binary.{read_binary}
use Rattle.texts.specs.Unknown.{read_unknown}
use Rattle.values.specs.ReadValue.{read_value}

mapped : {A : Type 0} (t : ValueType) (g : A → Value) → ((a : A) → type_of (g a) ≡ t) → (o : Option A) → is_read (option_map g o) ≡ true → type_of (read_or (text []) (option_map g o)) ≡ t
unfolding is_read read_or
mapped t g k None h = absurd (false≢true h)
mapped t g k (Some a) h = k a

pub type_of_read : (t : ValueType) (l : List ℕ) → is_read (read_value xcal t l) ≡ true → type_of (read_or (text []) (read_value xcal t l)) ≡ t
unfolding read_value is_read
type_of_read BINARY l h = mapped BINARY binary (λ a. refl) (read_binary xcal l) h
type_of_read BOOLEAN l h = mapped BOOLEAN boolean (λ a. refl) (read_boolean xcal l) h
type_of_read CAL-ADDRESS l h = mapped CAL-ADDRESS cal_address (λ a. refl) (read_uri l) h
type_of_read DATE l h = mapped DATE date (λ a. refl) (read_date xcal l) h
type_of_read DATE-TIME l h = mapped DATE-TIME date_time (λ a. refl) (read_date_time xcal l) h
type_of_read DURATION l h = mapped DURATION duration (λ a. refl) (read_duration xcal l) h
type_of_read FLOAT l h = mapped FLOAT float (λ a. refl) (read_float l) h
type_of_read INTEGER l h = mapped INTEGER integer (λ a. refl) (read_integer l) h
type_of_read PERIOD l h = absurd (false≢true h)
type_of_read RECUR l h = absurd (false≢true h)
type_of_read TEXT l h = mapped TEXT text (λ a. refl) (Some l) h
type_of_read TIME l h = mapped TIME time (λ a. refl) (read_time xcal l) h
type_of_read URI l h = mapped URI uri (λ a. refl) (read_uri l) h
type_of_read UTC-OFFSET l h = mapped UTC-OFFSET utc_offset (λ a. refl) (read_utc_offset xcal l) h
type_of_read UNKNOWN l h = mapped UNKNOWN unknown (λ a. refl) (read_unknown l) h

-- what is not read counts as a TEXT
pub type_unread : (o : Option Value) → is_read o ≡ false → type_of (read_or (text []) o) ≡ TEXT
unfolding is_read read_or
type_unread None h = refl
type_unread (Some v) h = absurd (false≢true (sym h))
