-- PERIOD from its elements, written as text (RFC 6321, section 3.6.9).
--     end_of          the duration, or the end
use Rattle.std.specs.Prelude.{List, [], ℕ, Option, None, Some}
use Rattle.octets.specs.Ascii.{ascii}
use Rattle.octets.specs.Reading.{read_or}
use Rattle.calendar.specs.Calendar.{xcal}
use Rattle.times.specs.Duration.{read_duration}
use Rattle.xml.specs.Nodes.{Nodes}
use Rattle.xcal.specs.ValueNodes.{moment_of}

abbrev pub end_of : Option (List ℕ) → Nodes → List ℕ
end_of None kids = moment_of (ascii "end") kids
end_of (Some s) kids = read_or [] (read_duration xcal s)
