-- Laws of what specs/PutPeriod.antt defines.
--     put_period, put_no_period     it is the element of the period that is read
use Rattle.std.specs.Prelude.{◌≡◌, Bool, false, List, [], ℕ, Option, None, Some}
use Rattle.std.proofs.Math.Path.{refl}
use Rattle.std.proofs.Common.{sym, ◌∙◌}
use Rattle.std.proofs.Math.Bool.{true}
use Rattle.std.proofs.lemmas.Bool.{false≢true}
use Rattle.octets.specs.Ascii.{ascii}
use Rattle.octets.specs.Pick.{pick}
use Rattle.octets.specs.Append.{◌⊕◌}
use Rattle.octets.specs.Reading.{and_then, is_read, or_nothing}
use Rattle.octets.specs.laws.Reading.{none-some}
use Rattle.calendar.specs.Calendar.{ical, xcal, Value, period_explicit, period_start, PERIOD}
use Rattle.sink.specs.Sink.{Put}
use Rattle.times.specs.DateTime.{is_date_time, write_date_time}
use Rattle.times.specs.laws.DateTime.{date_time_read_back}
use Rattle.times.specs.Duration.{is_duration, write_duration}
use Rattle.times.specs.laws.Duration.{duration_read_back}
use Rattle.times.specs.Period.{read_period}
use Rattle.times.specs.laws.Period.{period_accepted}
use Rattle.times.specs.PeriodAt.{Periods}
use Rattle.times.specs.PeriodWritten.{of_period, start_xml, end_xml}
use Rattle.times.specs.declared.period.Period.{Period}
use Rattle.values.specs.laws.Bare.{date_time_bare, duration_bare}
use Rattle.values.specs.ReadValue.{read_value}
use Rattle.xml.specs.Escape.{escaped, element_of}
use Rattle.xcal.specs.WriteXml.{value_xml}
use Rattle.write_xml_value.specs.PutPeriod.{end_name, period_xml}

module _ {d e : List ℕ} {o r : ℕ} (x : Bool) (bs : List ℕ) where
  pub put_end_named : x ≡ true → Put d e o r (element_of (ascii "end") bs) → Put d e o r (element_of (end_name x) bs)
  unfolding end_name pick
  put_end_named h w = rw h w

  pub put_duration_named : x ≡ false → Put d e o r (element_of (ascii "duration") bs) → Put d e o r (element_of (end_name x) bs)
  unfolding end_name pick
  put_duration_named h w = rw h w

-- ---- what is read

unfoldable is_explicit : Value → Bool
is_explicit v = of_period (λ s e. true) (λ s d. false) false v

kind : (a : List ℕ) (x : Bool) (u : List ℕ) (q : Option (List ℕ)) (v : Value) →
    pick x (Some (period_explicit a u)) (and_then q (λ d. Some (period_start a d))) ≡ Some v → is_explicit v ≡ x
unfolding is_explicit of_period and_then pick
kind a true u q v h = let z : period_explicit a u ≡ v = cc in rw (← z)
kind a false u None v h = none-some h
kind a false u (Some d) v h = let z : period_start a d ≡ v = cc in rw (← z)

moment_plain : (m : List ℕ) → is_date_time m ≡ true → escaped (write_date_time xcal m) ≡ write_date_time xcal m
moment_plain m h = date_time_bare (write_date_time ical m) m (date_time_read_back ical m h)

duration_plain : (v : List ℕ) → is_duration v ≡ true → escaped (write_duration xcal v) ≡ write_duration xcal v
duration_plain v h = duration_bare (write_duration ical v) v (duration_read_back ical v h)

abbrev Written : Value → Type 0
Written v = (x : Bool) → is_explicit v ≡ x → value_xml v ≡ element_of (ascii "period") (element_of (ascii "start") (start_xml v) ⊕ element_of (end_name x) (end_xml v))

explicit_written : (a z : List ℕ) → is_date_time a ≡ true → is_date_time z ≡ true → Written (period_explicit a z)
unfolding value_xml start_xml end_xml is_explicit of_period end_name pick
explicit_written a z p q true k = rw (moment_plain a p, moment_plain z q)
explicit_written a z p q false k = absurd (false≢true (sym k))

start_written : (a v : List ℕ) → is_date_time a ≡ true → is_duration v ≡ true → Written (period_start a v)
unfolding value_xml start_xml end_xml is_explicit of_period end_name pick
start_written a v p q true k = absurd (false≢true k)
start_written a v p q false k = rw (moment_plain a p, duration_plain v q)

module _ {d e : List ℕ} {o q : ℕ} (l : List ℕ) {m : ℕ} {s : List ℕ} {r : Option Period} (p : Periods (read_period l) m s r) where
  pub put_period : {y : Period} → r ≡ Some y → Put d e o q (period_xml y.explicit l) → Put d e o q (or_nothing value_xml (read_value ical PERIOD l))
  unfolding read_value is_read
  put_period {y} h w = let b = rw h at p in go (read_period l) refl b.good (λ v z. kind _ y.explicit _ _ v (sym b.is ∙ z)) w
    where
      go : (u : Option Value) → read_period l ≡ u → is_read u ≡ true → ((v : Value) → read_period l ≡ Some v → is_explicit v ≡ y.explicit) →
          Put d e o q (element_of (ascii "period") (element_of (ascii "start") (or_nothing start_xml u) ⊕ element_of (end_name y.explicit) (or_nothing end_xml u))) → Put d e o q (or_nothing value_xml u)
      go None z g f w = absurd (false≢true g)
      go (Some v) z g f w = rw (period_accepted Written explicit_written start_written l v z y.explicit (f v z)) w

  pub put_no_period : r ≡ None → Put d e o q [] → Put d e o q (or_nothing value_xml (read_value ical PERIOD l))
  unfolding read_value
  put_no_period h w = rw (p.is, h) w
