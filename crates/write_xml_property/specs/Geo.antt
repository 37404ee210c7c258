-- GEO of iCalendar text written as its elements (RFC 6321, section 3.4.1.2).
--     coordinates_xml    `latitude` and `longitude`, from the cursors of the two numbers
use Rattle.std.specs.Prelude.{List, ℕ}
use Rattle.octets.specs.Ascii.{ascii}
use Rattle.octets.specs.Append.{◌⊕◌}
use Rattle.octets.specs.Reading.{or_nothing}
use Rattle.source.specs.Source.{rest}
use Rattle.numbers.specs.Float.{read_float, write_float}
use Rattle.numbers.specs.Until.{until}
use Rattle.xml.specs.Escape.{element_of}

abbrev pub coordinates_xml : ℕ → List ℕ → ℕ → ℕ → List ℕ
coordinates_xml m s c g =
    element_of (ascii "latitude") (or_nothing write_float (read_float (until 59 m s c)))
    ⊕ element_of (ascii "longitude") (or_nothing write_float (read_float (rest m s g)))
