-- The characters that a string states (RFC 8259, section 7), in UTF-8, of a text that is accepted.
--     characters s     from the bytes s behind the quotation mark that opens it
--     quoted_length s  how many bytes of s belong to it, with the quotation mark that closes it
use Rattle.std.specs.Prelude.{List, [], ◌∷◌, ℕ, zero, suc, ◌+◌, ◌-◌, ◌*◌, eqb, ltb, drop}
use Rattle.octets.specs.Pick.{pick}
use Rattle.octets.specs.Append.{◌⊕◌}
use Rattle.utf8.specs.Spell.{spell}
use Rattle.json_text.specs.Bytes.{quotation_mark, escape, letter_u, hex_value, grown, is_high, is_low}

-- what begins with a byte: the end of the string, at the quotation mark that closes it or at what is no character; or a character's bytes, and how many
-- bytes of the text follow that belong to it
pub data Char : Type 0 where
  closing : Char
  char : List ℕ → ℕ → Char

-- the character that the letter of an escape of two bytes names: `n` LF, `t` TAB; quotation mark, reverse solidus and solidus themselves
abbrev pub named : ℕ → ℕ
named c = pick (eqb c 0x6E) 10 (pick (eqb c 0x74) 9 c)

-- what the first n bytes are worth, as hexadecimal digits, behind digits that are worth v; where they are none, 0x10000, which is no code unit
unfoldable pub hex_worth : ℕ → ℕ → List ℕ → ℕ
hex_worth zero v s = v
hex_worth (suc n) v [] = 0x10000
hex_worth (suc n) v (b ∷ s) = pick (eqb (hex_value b) 16) 0x10000 (hex_worth n (grown v (hex_value b)) s)

-- the code point of a surrogate pair (RFC 2781, section 2.2)
abbrev pub paired : ℕ → ℕ → ℕ
paired h l = 0x10000 + (h - 0xD800) * 0x400 + (l - 0xDC00)

-- a high surrogate, and what follows it
abbrev pub pair : ℕ → ℕ → Char
pair h l = pick (is_low l) (char (spell (paired h l)) 11) closing

-- behind `\u`: four digits, or a pair `XXXX\uXXXX`
abbrev pub unit : ℕ → List ℕ → Char
unit v s = pick (is_high v) (pair v (hex_worth 4 0 (drop 6 s))) (pick (ltb v 0x10000) (char (spell v) 5) closing)

unfoldable pub escaped : List ℕ → Char
escaped [] = closing
escaped (c ∷ s) = pick (eqb c letter_u) (unit (hex_worth 4 0 s) s) (char (named c ∷ []) 1)

-- b with the bytes s behind it
abbrev pub char_at : ℕ → List ℕ → Char
char_at b s = pick (eqb b quotation_mark) closing (pick (eqb b escape) (escaped s) (char (b ∷ []) 0))

-- ---- the whole string

unfoldable pub characters_by : Char → (ℕ → List ℕ) → List ℕ
characters_by closing rest = []
characters_by (char bs k) rest = bs ⊕ rest k

-- with k bytes to be passed over, which belong to a character before
unfoldable pub characters_from : List ℕ → ℕ → List ℕ
characters_from [] k = []
characters_from (b ∷ s) (suc k) = characters_from s k
characters_from (b ∷ s) zero = characters_by (char_at b s) (characters_from s)

abbrev pub characters : List ℕ → List ℕ
characters s = characters_from s 0

unfoldable pub length_by : Char → (ℕ → ℕ) → ℕ
length_by closing rest = 0
length_by (char bs k) rest = rest k

unfoldable pub length_from : List ℕ → ℕ → ℕ
length_from [] k = 0
length_from (b ∷ s) (suc k) = suc (length_from s k)
length_from (b ∷ s) zero = suc (length_by (char_at b s) (length_from s))

abbrev pub quoted_length : List ℕ → ℕ
quoted_length s = length_from s 0
