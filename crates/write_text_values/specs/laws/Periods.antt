-- Laws of what specs/Periods.antt defines.
--     put_moment     a date-time;   put_span, put_last: the end;   put_period: the whole
use Rattle.std.specs.Prelude.{◌≡◌, refl, List, [], ℕ, ◌*◌, Option, None, Some}
use Rattle.std.proofs.Common.{subst}
use Rattle.octets.specs.Ascii.{ascii}
use Rattle.octets.specs.Append.{◌⊕◌}
use Rattle.octets.specs.Reading.{read_or, or_nothing}
use Rattle.calendar.specs.Calendar.{ical, xcal}
use Rattle.sink.specs.Sink.{Put}
use Rattle.source.specs.Source.{rest}
use Rattle.times.specs.DateTime.{read_date_time, write_date_time}
use Rattle.times.specs.Duration.{read_duration, write_duration}
use Rattle.times.specs.Period.{write_period}
use Rattle.values.specs.WriteValue.{write_value}
use Rattle.xml.specs.Nodes.{Nodes, characters_of}
use Rattle.xcal.specs.ValueNodes.{child_named, text_of, moment_of, period_of}
use Rattle.xml.specs.NodesAt.{nodes_at}
use Rattle.write_text_values.specs.Children.{ChildAt, TextAt}
use Rattle.write_text_values.specs.laws.Children.{put_there, put_chars}
use Rattle.write_text_values.specs.Periods.{end_of}

moment_text : (o : Option (List ℕ)) → or_nothing (write_date_time ical) o ≡ read_or [] o
unfolding write_date_time read_or
moment_text None = refl
moment_text (Some v) = refl

span_text : (o : Option (List ℕ)) → or_nothing (write_duration ical) o ≡ read_or [] o
unfolding write_duration read_or
span_text None = refl
span_text (Some v) = refl

module _ {d e : List ℕ} {o r : ℕ} where
  pub put_moment : {n s : List ℕ} {from i : ℕ} → TextAt n s from i → Put d e o r (or_nothing (write_date_time ical) (read_date_time xcal (rest 1 s (2 * i)))) → Put d e o r (moment_of n (nodes_at s from))
  put_moment {n} {s} {from} {i} t p = subst (Put d e o r) (moment_text (read_date_time xcal (text_of n (nodes_at s from)))) (put_there (λ l. or_nothing (write_date_time ical) (read_date_time xcal l)) t p)

  module _ {s : List ℕ} {from : ℕ} {c : Option ℕ} (a : ChildAt (ascii "duration") s from c) where
    pub put_span : {i : ℕ} → c ≡ Some i → Put d e o r (or_nothing (write_duration ical) (read_duration xcal (rest 1 s (2 * i)))) →
        Put d e o r (end_of (child_named (ascii "duration") (nodes_at s from)) (nodes_at s from))
    put_span {i} h p =
        rw (a.is, h) (subst (Put d e o r) (span_text (read_duration xcal (characters_of (nodes_at s i)))) (put_chars (λ l. or_nothing (write_duration ical) (read_duration xcal l)) s i p))

    pub put_last : c ≡ None → Put d e o r (moment_of (ascii "end") (nodes_at s from)) → Put d e o r (end_of (child_named (ascii "duration") (nodes_at s from)) (nodes_at s from))
    put_last h p = rw (a.is, h) p

  pub put_period : (x : Option (List ℕ)) (kids : Nodes) → Put d e o r (moment_of (ascii "start") kids ⊕ ascii "/" ⊕ end_of x kids) → Put d e o r (write_value (period_of x kids))
  unfolding write_value write_period ◌⊕◌
  put_period None kids p = p
  put_period (Some s) kids p = p
