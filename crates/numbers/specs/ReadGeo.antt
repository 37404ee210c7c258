-- GEO in text as the code reads it.
--     Parted         the contract of `after_first`: the pieces after the first separator from a cursor on
--     ReadsGeo       the contract of `read_geo`: what its answer states, and whether it is a GEO
use Rattle.std.specs.Prelude.{◌≡◌, List, [], ℕ, Option, None, Some, is_some}
use Rattle.octets.specs.Words.{cut_at}
use Rattle.octets.specs.Reading.{and_then, is_read}
use Rattle.calendar.specs.Calendar.{Decimal, Value, geo}
use Rattle.source.specs.Source.{rest}
use Rattle.numbers.specs.Float.{read_float}
use Rattle.numbers.specs.Geo.{read_geo}
use Rattle.numbers.specs.Until.{until}
use Rattle.numbers.specs.FloatParts.{more_after}

abbrev pub pieces_of : ℕ → ℕ → List ℕ → Option ℕ → List (List ℕ)
pieces_of c m s None = []
pieces_of c m s (Some e) = cut_at c (rest m s e)

pub record Parted (c m : ℕ) (s : List ℕ) (at : ℕ) (r : Option ℕ) : Type 0 where
  pub is : more_after c (rest m s at) ≡ pieces_of c m s r

-- a latitude and a longitude
unfoldable pub both_of : Option Decimal → Option Decimal → Option Value
both_of x y = and_then x (λ la. and_then y (λ lo. Some (geo la lo)))

abbrev pub geo_of : ℕ → List ℕ → ℕ → Option ℕ → Option Value
geo_of m s at None = None
geo_of m s at (Some e) = both_of (read_float (until 59 m s at)) (read_float (rest m s e))

pub record ReadsGeo (m : ℕ) (s : List ℕ) (at : ℕ) (r : Option ℕ) : Type 0 where
  pub is : read_geo (rest m s at) ≡ geo_of m s at r
  pub good : is_read (read_geo (rest m s at)) ≡ is_some r
