-- A name found by halving a table that is in order of name.
--     key_for     what a name is ordered by: its first nine bytes, as digits of base 128 behind a 1, with zeros behind a shorter name. From the halves of its number (specs/Packing.antt of crate names)
--     below       how many entries of an ordered table have a smaller key
--     rising      keys rise
--     found_in    the row of the entry that has the halves h and l, at the place that the key has, counted from a number on; what stands for an unrecognised property where there is none
use Rattle.std.specs.Prelude.{Bool, true, false, ◌&&◌, List, [], ◌∷◌, ℕ, zero, suc, ◌+◌, ◌*◌, ◌/◌, ◌%◌, ◌^◌, eqb, ltb, leb, get_or}
use Rattle.octets.specs.Pick.{pick, ◌and◌}
use Rattle.octets.specs.Lists.{every}
use Rattle.schema.specs.declared.table.Entry.{Entry}
use Rattle.schema.specs.declared.table.Row.{Row}

-- ---- keys

-- the number of a name of n bytes, or its high half of n digits, is below this
abbrev under : ℕ → ℕ
under n = 2 * 128 ^ n

-- of seven bytes at most
unfoldable pub short_key : ℕ → ℕ
short_key l =
    pick (leb (under 6) l) (l % under 7 * 128 ^ 2)
    (pick (leb (under 5) l) (l * 128 ^ 3)
    (pick (leb (under 4) l) (l * 128 ^ 4)
    (pick (leb (under 3) l) (l * 128 ^ 5)
    (pick (leb (under 2) l) (l * 128 ^ 6)
    (pick (leb (under 1) l) (l * 128 ^ 7)
    (l * 128 ^ 8))))))

-- of nine bytes or more
unfoldable pub long_key : ℕ → ℕ → ℕ
long_key h l =
    pick (ltb h (under 1)) (h * 128 ^ 8 + l % 128 ^ 8)
    (pick (ltb h (under 2)) (h * 128 ^ 7 + l % 128 ^ 8 / 128)
    (pick (ltb h (under 3)) (h * 128 ^ 6 + l % 128 ^ 8 / 128 ^ 2)
    (pick (ltb h (under 4)) (h * 128 ^ 5 + l % 128 ^ 8 / 128 ^ 3)
    (pick (ltb h (under 5)) (h * 128 ^ 4 + l % 128 ^ 8 / 128 ^ 4)
    (pick (ltb h (under 6)) (h * 128 ^ 3 + l % 128 ^ 8 / 128 ^ 5)
    (pick (ltb h (under 7)) (h * 128 ^ 2 + l % 128 ^ 8 / 128 ^ 6)
    (h % under 8 * 128 + l % 128 ^ 8 / 128 ^ 7)))))))

unfoldable pub key_for : ℕ → ℕ → ℕ
key_for h l = pick (eqb h 0) (short_key l) (pick (eqb h 1) (128 ^ 9 + l % 128 ^ 8 * 128) (long_key h l))

-- ---- the place of a key

unfoldable pub below : ℕ → List Entry → ℕ
below k [] = 0
below k (e ∷ es) = pick (ltb e.key k) (suc (below k es)) 0

abbrev pub is_exact : ℕ → ℕ → Entry → Bool
is_exact h l e = eqb l e.low && eqb h e.high

-- the entry at a place has the halves
unfoldable pub exact_at : ℕ → ℕ → List Entry → ℕ → Bool
exact_at h l [] n = false
exact_at h l (e ∷ es) zero = is_exact h l e
exact_at h l (e ∷ es) (suc n) = exact_at h l es n

-- keys rise
unfoldable pub rising : List Entry → Bool
rising [] = true
rising (e ∷ es) = every (λ x. ltb e.key x.key) es and rising es

-- ---- its row

-- of the entry of the property p, what is handed on
abbrev pub row_from : ℕ → Entry → Row
row_from p e = record {
  number = p;
  default = e.default;
  listed = e.listed;
  types = e.types;
  parameters = e.parameters;
  components = e.components;
}

unfoldable pub found_in : List Entry → ℕ → ℕ → ℕ → ℕ → Entry → Row
found_in es from k h l none = pick (exact_at h l es (below k es)) (row_from (from + below k es) (get_or es (below k es) none)) (row_from 46 none)
