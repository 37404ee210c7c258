-- BINARY of RFC 5545, section 3.3.1: the base64 characters (RFC 4648, section 4) are kept as they stand.
--     is_binary s      whole groups of four, `=` only at the end of the last one, zero padding bits; may be empty
--     read_binary f s  the characters; from xCal without white space
--     base64_value b   what a character is worth, RFC 4648, table 1
-- It goes a character at a time, as the code does. BinaryGrammar says the same group by group, as the RFC does.
use Rattle.std.specs.Prelude.{Bool, List, [], ◌∷◌, ℕ, ◌+◌, ◌-◌, ◌%◌, eqb, ltb, Option}
use Rattle.octets.specs.Pick.{pick, ◌and◌, ◌or◌}
use Rattle.octets.specs.Class.{is_alpha, is_capital, is_small, is_digit, is_space}
use Rattle.octets.specs.Reading.{provided}
use Rattle.calendar.specs.Calendar.{Format, ical, xcal}

--   binary = *(4b-char) [b-end]
--   b-end  = (2b-char "==") / (3b-char "=")
--   b-char = ALPHA / DIGIT / "+" / "/"
abbrev pub is_base64_char : ℕ → Bool
is_base64_char b = is_alpha b or is_digit b or eqb b 43 or eqb b 47

-- A to Z are 0 to 25, a to z 26 to 51, 0 to 9 52 to 61, + is 62, / 63; another byte counts 0, so that the function is total
abbrev pub base64_value : ℕ → ℕ
base64_value b =
    pick (is_capital b) (b - 65)
    (pick (is_small b) (b - 71)
    (pick (is_digit b) (b + 4)
    (pick (eqb b 43) 62
    (pick (eqb b 47) 63 0))))

-- A place in the last group: 0 to 3, how many of its characters were read; 4, one more `=` is due; 5, the end is due.
-- Padding bits: of the character before `==` the last four bits are over, of that before `=` the last two; they are zero.

-- `=` at a place, after the character `last`
abbrev pub pad_fits : ℕ → ℕ → Bool
pad_fits n last = eqb n 4 or (eqb n 2 and eqb (base64_value last % 16) 0) or (eqb n 3 and eqb (base64_value last % 4) 0)

-- b at a place, after the character `last`; 61 is `=`
abbrev pub in_group : ℕ → ℕ → ℕ → Bool
in_group n last b = pick (eqb b 61) (pad_fits n last) (is_base64_char b and ltb n 4)

-- the place after b
abbrev pub next_place : ℕ → ℕ → ℕ
next_place n b = pick (eqb b 61) (pick (eqb n 2) 4 5) (pick (eqb n 3) 0 (n + 1))

unfoldable pub binary_from : ℕ → ℕ → List ℕ → Bool
binary_from n last [] = eqb n 0 or eqb n 5
binary_from n last (b ∷ s) = in_group n last b and binary_from (next_place n b) b s

abbrev pub is_binary : List ℕ → Bool
is_binary s = binary_from 0 0 s

-- space, TAB, LF and CR dropped
unfoldable pub without_space : List ℕ → List ℕ
without_space [] = []
without_space (b ∷ s) = pick (is_space b) (without_space s) (b ∷ without_space s)

abbrev pub binary_chars : Format → List ℕ → List ℕ
binary_chars ical s = s
binary_chars xcal s = without_space s

abbrev pub read_binary : Format → List ℕ → Option (List ℕ)
read_binary f s = provided (is_binary (binary_chars f s)) (binary_chars f s)
