-- PERIOD written to XML: its start, and its end or its duration, as the text of an element each (RFC 6321, section 3.6.9).
--     start_xml, end_xml     the text of the two elements
use Rattle.std.specs.Prelude.{Bool, List, [], ℕ}
use Rattle.octets.specs.Pick.{pick}
use Rattle.octets.specs.Reading.{or_nothing}
use Rattle.calendar.specs.Calendar.{ical, xcal, Value, binary, boolean, cal_address, date, date_time, duration, float, integer, period_explicit, period_start, recur, text, time, uri, utc_offset, unknown, geo, request_status}
use Rattle.times.specs.DateTime.{read_date_time, write_date_time}
use Rattle.times.specs.Duration.{read_duration, write_duration}

-- by the two kinds of period; a third answer for any other value
unfoldable pub of_period : {A : Type 0} → (List ℕ → List ℕ → A) → (List ℕ → List ℕ → A) → A → Value → A
of_period f g z (period_explicit s e) = f s e
of_period f g z (period_start s d) = g s d
of_period f g z (binary b) = z
of_period f g z (boolean b) = z
of_period f g z (cal_address b) = z
of_period f g z (date b) = z
of_period f g z (date_time b) = z
of_period f g z (duration b) = z
of_period f g z (float b) = z
of_period f g z (integer b) = z
of_period f g z (recur b) = z
of_period f g z (text b) = z
of_period f g z (time b) = z
of_period f g z (uri b) = z
of_period f g z (utc_offset b) = z
of_period f g z (unknown b) = z
of_period f g z (geo a b) = z
of_period f g z (request_status a b c) = z

unfoldable pub start_xml : Value → List ℕ
start_xml v = of_period (λ s e. write_date_time xcal s) (λ s d. write_date_time xcal s) [] v

unfoldable pub end_xml : Value → List ℕ
end_xml v = of_period (λ s e. write_date_time xcal e) (λ s d. write_duration xcal d) [] v

-- ---- the end, or the duration

-- what is written from the cursor after the slash
unfoldable pub end_bytes : Bool → List ℕ → List ℕ
end_bytes x l = pick x (or_nothing (write_date_time xcal) (read_date_time ical l)) (or_nothing (write_duration xcal) (read_duration ical l))
