-- PERIOD from its array, written as text (RFC 7265, section 3.6.9).
--     end_text   what is written of the second string: a duration, or else an end
use Rattle.std.specs.Prelude.{List, [], ℕ}
use Rattle.octets.specs.Reading.{read_or}
use Rattle.calendar.specs.Calendar.{xcal}
use Rattle.times.specs.DateTime.{read_date_time}
use Rattle.times.specs.Duration.{read_duration}
use Rattle.recur.specs.Item.{or_other}

abbrev pub end_text : List ℕ → List ℕ
end_text l = read_or [] (or_other (read_duration xcal l) (read_date_time xcal l))
