-- Laws of what specs/PeriodWritten.antt defines.
--     starts_as, end_text    what the writers put is that
use Rattle.std.specs.Prelude.{◌≡◌, refl, Bool, true, false, List, [], ℕ, Option, None, Some}
use Rattle.std.proofs.Common.{sym, ap, ◌∙◌}
use Rattle.std.proofs.lemmas.Bool.{false≢true}
use Rattle.octets.specs.Pick.{pick}
use Rattle.octets.specs.Reading.{and_then, is_read, or_nothing}
use Rattle.calendar.specs.Calendar.{ical, xcal, Value, period_explicit, period_start}
use Rattle.source.specs.Source.{rest}
use Rattle.sink.specs.Sink.{Put}
use Rattle.times.specs.laws.Spelling.{keep_yes}
use Rattle.times.specs.Letters.{cased}
use Rattle.times.specs.DateTime.{is_date_time, write_date_time}
use Rattle.times.specs.DateTimeAlong.{date_time_of}
use Rattle.times.specs.Duration.{duration_of, read_duration, write_duration}
use Rattle.times.specs.Period.{read_period}
use Rattle.times.specs.laws.Period.{period_accepted}
use Rattle.times.specs.PeriodAt.{period_of, Periods}
use Rattle.times.specs.laws.PeriodAt.{end_read, duration_read}
use Rattle.times.specs.Written.{moment_bytes}
use Rattle.times.specs.laws.Written.{date_time_written}
use Rattle.times.specs.PeriodWritten.{of_period, start_xml, end_xml, end_bytes}
use Rattle.times.specs.declared.period.Period.{Period}

-- ---- the start

starts_as : (start : List ℕ) (x : Bool) (u : List ℕ) (q : Option (List ℕ)) →
    is_read (pick x (Some (period_explicit start u)) (and_then q (λ d. Some (period_start start d)))) ≡ true →
    or_nothing start_xml (pick x (Some (period_explicit start u)) (and_then q (λ d. Some (period_start start d)))) ≡ write_date_time xcal start
unfolding start_xml of_period and_then is_read pick
starts_as a true u q h = refl
starts_as a false u None h = absurd (false≢true h)
starts_as a false u (Some d) h = refl

-- ---- the end, or the duration

unfoldable is_end : Value → Bool
is_end v = of_period (λ s e. is_date_time e) (λ s d. true) true v

end_kept : (s : List ℕ) (v : Value) → read_period s ≡ Some v → is_end v ≡ true
unfolding is_end of_period
end_kept s v h = period_accepted (λ v. is_end v ≡ true) (λ a b p q. q) (λ a d p q. refl) s v h

end_text : (a : List ℕ) (x : Bool) (l : List ℕ) →
    ((v : Value) → pick x (Some (period_explicit a (cased false l))) (and_then (duration_of (cased false l)) (λ d. Some (period_start a d))) ≡ Some v → is_end v ≡ true) →
    is_read (pick x (Some (period_explicit a (cased false l))) (and_then (duration_of (cased false l)) (λ d. Some (period_start a d)))) ≡ true →
    or_nothing end_xml (pick x (Some (period_explicit a (cased false l))) (and_then (duration_of (cased false l)) (λ d. Some (period_start a d)))) ≡ end_bytes x l
unfolding end_xml end_bytes is_end of_period and_then is_read pick
end_text a true l g h = sym (ap (or_nothing (write_date_time xcal)) (end_read l ∙ keep_yes is_date_time (cased false l) (g (period_explicit a (cased false l)) refl)))
end_text a false l g h = go (duration_of (cased false l)) refl h
  where
    go : (q : Option (List ℕ)) → duration_of (cased false l) ≡ q → is_read (and_then q (λ d. Some (period_start a d))) ≡ true →
        or_nothing end_xml (and_then q (λ d. Some (period_start a d))) ≡ or_nothing (write_duration xcal) (read_duration ical l)
    go None e k = absurd (false≢true k)
    go (Some d) e k = sym (ap (or_nothing (write_duration xcal)) (duration_read l ∙ e))

-- ---- the writers

module _ (l : List ℕ) {m : ℕ} {s : List ℕ} {r : Option Period} (p : Periods (read_period l) m s r) where
  module _ {t : Period} (h : r ≡ Some t) where
    there : read_period l ≡ period_of m s (Some t)
    there = p.is ∙ ap (period_of m s) h

    read : is_read (period_of m s (Some t)) ≡ true
    unfolding is_read
    read = ap is_read (sym there) ∙ p.good ∙ ap is_read h

    pub put_start_read : {d e : List ℕ} {o q : ℕ} → Put d e o q (moment_bytes true t.start.date.year t.start.date.month t.start.date.day t.start.time.hour t.start.time.minute t.start.time.second t.start.time.utc) →
        Put d e o q (or_nothing start_xml (read_period l))
    put_start_read w =
        rw (
          there,
          starts_as (date_time_of t.start) t.explicit (cased false (rest m s t.at)) (duration_of (cased false (rest m s t.at))) read,
          date_time_written true t.start.date.year t.start.date.month t.start.date.day t.start.time.hour t.start.time.minute t.start.time.second t.start.time.utc,
        ) w

    pub put_end_read : {d e : List ℕ} {o q : ℕ} → Put d e o q (end_bytes t.explicit (rest m s t.at)) → Put d e o q (or_nothing end_xml (read_period l))
    put_end_read w = rw (there, end_text (date_time_of t.start) t.explicit (rest m s t.at) (λ v k. end_kept l v (there ∙ k)) read) w

  pub put_no_start : {d e : List ℕ} {o q : ℕ} → r ≡ None → Put d e o q [] → Put d e o q (or_nothing start_xml (read_period l))
  put_no_start h w = rw (p.is, h) w

  pub put_no_end : {d e : List ℕ} {o q : ℕ} → r ≡ None → Put d e o q [] → Put d e o q (or_nothing end_xml (read_period l))
  put_no_end h w = rw (p.is, h) w
