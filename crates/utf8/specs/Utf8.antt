-- Which bytes an input may hold (refusal CHARACTER): UTF-8 by RFC 3629, in the form of the Unicode Standard's table 3-7, without the controls below U+0020
-- except TAB, LF, CR, and without U+007F, U+FFFE, U+FFFF. C1 controls and U+FEFF are allowed.
--     first_bad s     the index of the first byte of the first sequence that is no such character: where a decoder stands that has read whole characters so far
--     well_formed s   whether there is none
use Rattle.std.specs.Prelude.{Bool, true, false, List, [], ◌∷◌, ℕ, zero, suc, ◌+◌, eqb, leb, Option, None, Some}
use Rattle.octets.specs.Pick.{pick, within, ◌and◌, ◌or◌}
use Rattle.octets.specs.Class.{is_tail}
use Rattle.octets.specs.Reading.{is_read}

-- a character of one byte that is allowed: TAB, LF, CR, and from the space to the tilde
abbrev pub is_ascii : ℕ → Bool
is_ascii a = within 0x20 0x7E a or eqb a 9 or eqb a 10 or eqb a 13

-- how many bytes follow the lead byte a; 4 where no sequence begins with a
abbrev pub more : ℕ → ℕ
more a =
    pick (is_ascii a) 0 (
    pick (within 0xC2 0xDF a) 1 (
    pick (within 0xE0 0xEF a) 2 (
    pick (within 0xF0 0xF4 a) 3 4)))

-- the first of them lies within low and high: no overlong form, no surrogate, nothing past U+10FFFF
abbrev pub low : ℕ → ℕ
low a = pick (eqb a 0xE0) 0xA0 (pick (eqb a 0xF0) 0x90 0x80)

abbrev pub high : ℕ → ℕ
high a = pick (eqb a 0xED) 0x9F (pick (eqb a 0xF4) 0x8F 0xBF)

-- the highest that may follow b, where `last` says that b follows the lead byte EF: U+FFFE is EF BF BE, U+FFFF is EF BF BF
abbrev pub high_after : Bool → ℕ → ℕ
high_after last b = pick (last and eqb b 0xBF) 0xBD 0xBF

-- s begins with n tail bytes, the first of them within lo and hi
unfoldable pub tails : ℕ → ℕ → ℕ → Bool → List ℕ → Bool
tails zero lo hi last s = true
tails (suc n) lo hi last [] = false
tails (suc n) lo hi last (b ∷ s) = within lo hi b and tails n 0x80 (high_after last b) false s

-- a character begins with byte a and goes on in s
abbrev pub is_sequence : ℕ → List ℕ → Bool
is_sequence a s = leb (more a) 3 and tails (more a) (low a) (high a) (eqb a 0xEF) s

-- i is the index of the front of s, and the first k bytes of s are of a character that began before
unfoldable pub bad_from : ℕ → ℕ → List ℕ → Option ℕ
bad_from k i [] = None
bad_from (suc k) i (b ∷ s) = bad_from k (i + 1) s
bad_from zero i (a ∷ s) = pick (is_sequence a s) (bad_from (more a) (i + 1) s) (Some i)

abbrev pub first_bad : List ℕ → Option ℕ
first_bad s = bad_from 0 0 s

-- a tail byte stands at the front
unfoldable pub tail_at : List ℕ → Bool
tail_at [] = false
tail_at (b ∷ s) = is_tail b

unfoldable pub well_formed : List ℕ → Bool
well_formed s = pick (is_read (first_bad s)) false true
