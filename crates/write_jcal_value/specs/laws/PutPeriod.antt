-- Laws of what specs/PutPeriod.antt defines.
--     put_period, put_no_period     it is the array of the period that is read
use Rattle.std.specs.Prelude.{◌≡◌, Bool, List, [], ◌∷◌, ℕ, Option, None, Some}
use Rattle.std.proofs.Math.Path.{refl}
use Rattle.std.proofs.Common.{ap, ◌∙◌}
use Rattle.std.proofs.Math.Bool.{true}
use Rattle.std.proofs.lemmas.Bool.{false≢true}
use Rattle.octets.specs.Ascii.{ascii}
use Rattle.octets.specs.Append.{◌⊕◌}
use Rattle.octets.specs.laws.Append.{append_regroup}
use Rattle.octets.specs.Reading.{is_read, or_nothing}
use Rattle.calendar.specs.Calendar.{ical, xcal, Value, period_explicit, period_start, PERIOD}
use Rattle.sink.specs.Sink.{Put}
use Rattle.times.specs.DateTime.{is_date_time, write_date_time}
use Rattle.times.specs.laws.DateTime.{date_time_read_back}
use Rattle.times.specs.Duration.{is_duration, write_duration}
use Rattle.times.specs.laws.Duration.{duration_read_back}
use Rattle.times.specs.Period.{read_period}
use Rattle.times.specs.laws.Period.{period_accepted}
use Rattle.times.specs.PeriodAt.{Periods}
use Rattle.times.specs.PeriodWritten.{of_period, start_xml, end_xml}
use Rattle.times.specs.declared.period.Period.{Period}
use Rattle.values.specs.ReadValue.{read_value}
use Rattle.json_text.specs.Write.{quoted, array_of}
use Rattle.jcal.specs.WriteJcal.{value_json}
use Rattle.jcal.proofs.laws.Plain.{date_time_plain, duration_plain}
use Rattle.write_json.specs.laws.Separated.{array_pair}
use Rattle.write_jcal_value.specs.PutPeriod.{period_json}

moment_plain : (m : List ℕ) → is_date_time m ≡ true → quoted (write_date_time xcal m) ≡ ascii "\"" ⊕ write_date_time xcal m ⊕ ascii "\""
moment_plain m h = ap (λ (l : List ℕ). ascii "\"" ⊕ l ⊕ ascii "\"") (date_time_plain (write_date_time ical m) m (date_time_read_back ical m h))

length_plain : (v : List ℕ) → is_duration v ≡ true → quoted (write_duration xcal v) ≡ ascii "\"" ⊕ write_duration xcal v ⊕ ascii "\""
length_plain v h = ap (λ (l : List ℕ). ascii "\"" ⊕ l ⊕ ascii "\"") (duration_plain (write_duration ical v) v (duration_read_back ical v h))

-- two strings in an array, by the seams of the code
pairs : (ascii "[\"" ≡ ascii "[" ⊕ ascii "\"") × (ascii ",\"" ≡ ascii "," ⊕ ascii "\"") × (ascii "\"]" ≡ ascii "\"" ⊕ ascii "]")
unfolding ◌⊕◌
pairs = (refl, refl, refl)

regroup : (o q c k a b : List ℕ) → ((o ⊕ q) ⊕ a ⊕ q) ⊕ (c ⊕ q) ⊕ b ⊕ q ⊕ k ≡ o ⊕ (q ⊕ a ⊕ q) ⊕ c ⊕ (q ⊕ b ⊕ q) ⊕ k
regroup o q c k a b = simp append_regroup

two_strings : (a b : List ℕ) → (ascii "[\"" ⊕ a ⊕ ascii "\"") ⊕ ascii ",\"" ⊕ b ⊕ ascii "\"]" ≡ array_of ((ascii "\"" ⊕ a ⊕ ascii "\"") ∷ (ascii "\"" ⊕ b ⊕ ascii "\"") ∷ [])
two_strings a b =
    rw (pairs.0, pairs.1, pairs.2) (regroup (ascii "[") (ascii "\"") (ascii ",") (ascii "]") a b ∙ array_pair (ascii "\"" ⊕ a ⊕ ascii "\"") (ascii "\"" ⊕ b ⊕ ascii "\""))

abbrev Written : Value → Type 0
Written v = value_json v ≡ (ascii "[\"" ⊕ start_xml v ⊕ ascii "\"") ⊕ ascii ",\"" ⊕ end_xml v ⊕ ascii "\"]"

explicit_written : (a z : List ℕ) → is_date_time a ≡ true → is_date_time z ≡ true → Written (period_explicit a z)
unfolding value_json start_xml end_xml of_period
explicit_written a z p q = rw (two_strings (write_date_time xcal a) (write_date_time xcal z), moment_plain a p, moment_plain z q)

start_written : (a v : List ℕ) → is_date_time a ≡ true → is_duration v ≡ true → Written (period_start a v)
unfolding value_json start_xml end_xml of_period
start_written a v p q = rw (two_strings (write_date_time xcal a) (write_duration xcal v), moment_plain a p, length_plain v q)

module _ {d e : List ℕ} {o q : ℕ} (l : List ℕ) {m : ℕ} {s : List ℕ} {r : Option Period} (p : Periods (read_period l) m s r) where
  pub put_period : {y : Period} → r ≡ Some y → Put d e o q (period_json l) → Put d e o q (or_nothing value_json (read_value ical PERIOD l))
  unfolding read_value is_read
  put_period h w = let b = rw h at p in go (read_period l) refl b.good w
    where
      go : (u : Option Value) → read_period l ≡ u → is_read u ≡ true →
          Put d e o q ((ascii "[\"" ⊕ or_nothing start_xml u ⊕ ascii "\"") ⊕ ascii ",\"" ⊕ or_nothing end_xml u ⊕ ascii "\"]") → Put d e o q (or_nothing value_json u)
      go None z g w = absurd (false≢true g)
      go (Some v) z g w = rw (period_accepted Written explicit_written start_written l v z) w

  pub put_no_period : r ≡ None → Put d e o q [] → Put d e o q (or_nothing value_json (read_value ical PERIOD l))
  unfolding read_value
  put_no_period h w = rw (p.is, h) w
