-- What is printed of a log.
--     places   how the line of some of its bytes begins: the place of the first, a space, the place behind the last
use Rattle.std.specs.Prelude.{List, ℕ}
use Rattle.octets.specs.Ascii.{ascii}
use Rattle.octets.specs.Append.{◌⊕◌}
use Rattle.octets.specs.Decimal.{digits}

-- of places below 10 ^ 20
abbrev pub places : ℕ → ℕ → List ℕ
places from to = digits 19 from ⊕ ascii " " ⊕ digits 19 to
