-- GEO in text (RFC 5545, section 3.8.1.6): geovalue = float ";" float, latitude and longitude.
--     read_geo, write_geo
use Rattle.std.specs.Prelude.{List, [], ◌∷◌, ℕ, Option, None, Some}
use Rattle.octets.specs.Pick.{pick}
use Rattle.octets.specs.Append.{◌⊕◌}
use Rattle.octets.specs.Words.{is_empty, cut_at}
use Rattle.octets.specs.Reading.{and_then}
use Rattle.calendar.specs.Calendar.{Decimal, Value, geo}
use Rattle.numbers.specs.Float.{read_float, write_float}

-- the longitude, from the pieces that follow the first semicolon (59 is ;)
unfoldable pub longitude : List (List ℕ) → Option Decimal
longitude [] = None
longitude (s ∷ ps) = pick (is_empty ps) (read_float s) None

unfoldable pub coordinates : List (List ℕ) → Option Value
coordinates [] = None
coordinates (s ∷ ps) = and_then (read_float s) (λ la. and_then (longitude ps) (λ lo. Some (geo la lo)))

abbrev pub read_geo : List ℕ → Option Value
read_geo s = coordinates (cut_at 59 s)

abbrev pub write_geo : Decimal → Decimal → List ℕ
write_geo la lo = write_float la ⊕ (59 ∷ write_float lo)
