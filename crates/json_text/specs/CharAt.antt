-- The character that stands at a place in a string.
--     char_in s    what begins at the front of s
--     Character    the contract of a reading: r is the character at the place p
use Rattle.std.specs.Prelude.{◌≡◌, List, [], ◌∷◌, ℕ, ◌+◌, ◌-◌, ◌≤◌, ◌<◌, eqb, ltb, length, get_or, drop}
use Rattle.octets.specs.Pick.{pick}
use Rattle.utf8.specs.Spell.{spell}
use Rattle.json_text.specs.Bytes.{escape}
use Rattle.json_text.specs.Strings.{Char, closing, char, char_at}
use Rattle.json_text.specs.declared.CharRead.{CharRead}

unfoldable pub char_in : List ℕ → Char
char_in [] = closing
char_in (b ∷ s) = char_at b s

-- a byte, 256 for none, the code point that an escape of digits names above 256; and the place after it
abbrev pub stated : ℕ → CharRead → Char
stated p r =
    pick (eqb r.u 256) closing
    (pick (ltb r.u 256) (char (r.u ∷ []) (r.next - (p + 1))) (char (spell (r.u - 257)) (r.next - (p + 1))))

-- an escape of digits, from p to n: of its first three bytes only the first is a reverse solidus
pub record Escaped (s : List ℕ) (p n : ℕ) : Type 0 where
  pub wide : p + 6 ≤ n
  pub begins : get_or s p 0 ≡ escape
  pub second : get_or s (p + 1) 0 ≡ escape → ⊥
  pub third : get_or s (p + 2) 0 ≡ escape → ⊥

-- `inside`: unless there is none, it ends within the length
pub record Character (s : List ℕ) (p : ℕ) (r : CharRead) : Type 0 where
  pub is : char_in (drop p s) ≡ stated p r
  pub high : r.u < 257 + 0x110000
  pub inside : (r.u ≡ 256 → ⊥) → (p < r.next) × (r.next ≤ length s)
  pub digits : 256 < r.u → Escaped s p r.next
