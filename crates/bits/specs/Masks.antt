-- A set of small numbers as a mask: bit i is set where i is in it. Runs of bits of a number.
--     has        a number is in the set of a mask
--     mask_of    the mask of a list of numbers, each standing there once
--     low_bits   the lowest `count` bits;   high_bits: those from number `from` on
use Rattle.std.specs.Prelude.{Bool, List, [], ◌∷◌, ℕ, ◌+◌, ◌/◌, ◌%◌, ◌^◌, eqb}

abbrev pub has : ℕ → ℕ → Bool
has mask i = eqb (mask / 2 ^ i % 2) 1

abbrev pub mask_of : List ℕ → ℕ
mask_of [] = 0
mask_of (i ∷ is) = 2 ^ i + mask_of is

abbrev pub low_bits : ℕ → ℕ → ℕ
low_bits x count = x % 2 ^ count

abbrev pub high_bits : ℕ → ℕ → ℕ
high_bits x from = x / 2 ^ from
