-- GEO of iCalendar text written as an array (RFC 7265, section 3.4.1.1).
--     coordinates_json    latitude and longitude, from the cursors of the two numbers
use Rattle.std.specs.Prelude.{List, ℕ}
use Rattle.octets.specs.Ascii.{ascii}
use Rattle.octets.specs.Append.{◌⊕◌}
use Rattle.octets.specs.Reading.{or_nothing}
use Rattle.source.specs.Source.{rest}
use Rattle.numbers.specs.Float.{read_float, write_float}
use Rattle.numbers.specs.Until.{until}

abbrev pub coordinates_json : ℕ → List ℕ → ℕ → ℕ → List ℕ
coordinates_json m s c g =
    (ascii "[" ⊕ or_nothing write_float (read_float (until 59 m s c))) ⊕ ascii "," ⊕ or_nothing write_float (read_float (rest m s g)) ⊕ ascii "]"
