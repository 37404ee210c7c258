-- The digits of a character reference, read from the left, with a value that stops growing where no character is.
--     is_digit_in h      a digit, hexadecimal if h says so
--     worth_on h n s     what the digits at the front of s are worth after digits that are worth n
--     capped n           n, or 0x110000 where it is more: no character has such a number (capped_character)
use Rattle.std.specs.Prelude.{◌≡◌, Bool, List, [], ◌∷◌, ℕ, ◌+◌, ◌*◌, ◌≤◌, ltb, length, drop}
use Rattle.octets.specs.Pick.{pick}
use Rattle.octets.specs.Scan.{span_end}
use Rattle.octets.specs.Class.{is_digit}
use Rattle.xml.specs.Token.{is_hex_digit, hex_digit_of}
use Rattle.xml.specs.declared.references.Digits.{Digits}

abbrev pub is_digit_in : Bool → ℕ → Bool
is_digit_in h b = pick h (is_hex_digit b) (is_digit b)

abbrev pub base : Bool → ℕ
base h = pick h 16 10

unfoldable pub worth_on : Bool → ℕ → List ℕ → ℕ
worth_on h n [] = n
worth_on h n (b ∷ s) = pick (is_digit_in h b) (worth_on h (n * base h + hex_digit_of b) s) n

unfoldable pub capped : ℕ → ℕ
capped n = pick (ltb n 0x110000) n 0x110000

-- ---- the loop

-- the digits at a place end at r.end, and are worth r .v
pub record Counted (h : Bool) (s : List ℕ) (at : ℕ) (r : Digits) : Type 0 where
  pub end : r.end ≡ span_end (is_digit_in h) s at
  pub worth : r.v ≡ capped (worth_on h 0 (drop at s))
  pub onward : at ≤ r.end
  pub inside : r.end ≤ length s
  pub small : r.v ≤ 0x110000
