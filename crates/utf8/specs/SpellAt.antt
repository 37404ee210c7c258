-- The bytes of a code point by their numbers.
--     two_of, three_of, four_of  byte k of a sequence of that many, 0 for any other number
use Rattle.std.specs.Prelude.{ℕ, ◌+◌, ◌/◌, eqb}
use Rattle.octets.specs.Pick.{pick}
use Rattle.utf8.specs.Spell.{tail_of}

abbrev pub two_of : ℕ → ℕ → ℕ
two_of c k = pick (eqb k 0) (0xC0 + c / 64) (pick (eqb k 1) (tail_of c) 0)

abbrev pub three_of : ℕ → ℕ → ℕ
three_of c k = pick (eqb k 0) (0xE0 + c / 4096) (pick (eqb k 1) (tail_of (c / 64)) (pick (eqb k 2) (tail_of c) 0))

abbrev pub four_of : ℕ → ℕ → ℕ
four_of c k = pick (eqb k 0) (0xF0 + c / 262144) (pick (eqb k 1) (tail_of (c / 4096)) (pick (eqb k 2) (tail_of (c / 64)) (pick (eqb k 3) (tail_of c) 0)))
