-- Dates and times written: the digits two by two, with the marks of XML between them.
--     mark_bytes      a mark, where there is one
use Rattle.std.specs.Prelude.{Bool, List, [], ◌∷◌, ℕ, ◌/◌, ◌%◌}
use Rattle.octets.specs.Pick.{pick}
use Rattle.octets.specs.Append.{◌⊕◌}
use Rattle.times.specs.Digits.{two_digits}

abbrev pub mark_bytes : Bool → ℕ → List ℕ
mark_bytes on c = pick on (c ∷ []) []

-- a mark and two digits
unfoldable pub marked : Bool → ℕ → ℕ → List ℕ
marked on c n = mark_bytes on c ⊕ two_digits n

unfoldable pub year_digits : ℕ → List ℕ
year_digits y = two_digits (y / 100) ⊕ two_digits (y % 100)

-- year, month and day, with hyphens or without
unfoldable pub day_bytes : Bool → ℕ → ℕ → ℕ → List ℕ
day_bytes to y m d = year_digits y ⊕ marked to 45 m ⊕ marked to 45 d

-- hour, minute and second, with colons or without, and Z for UTC
unfoldable pub clock_bytes : Bool → ℕ → ℕ → ℕ → Bool → List ℕ
clock_bytes to h m s z = two_digits h ⊕ marked to 58 m ⊕ marked to 58 s ⊕ mark_bytes z 90

-- a day and a time with T between them
unfoldable pub moment_bytes : Bool → ℕ → ℕ → ℕ → ℕ → ℕ → ℕ → Bool → List ℕ
moment_bytes to y m d h i s z = day_bytes to y m d ⊕ (84 ∷ []) ⊕ clock_bytes to h i s z
