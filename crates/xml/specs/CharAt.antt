-- The character that stands at a place: the token there, if it is no tag.
--     char_token b s  the token that begins with the byte b, s being the bytes after b; a tag is none
--     char_in s       the same at the front of s
--     Character       the contract of a reading: r is the character that t states, `at` being the place after its first byte
use Rattle.std.specs.Prelude.{◌≡◌, List, [], ◌∷◌, ℕ, ◌+◌, ◌-◌, ◌≤◌, ◌<◌, eqb, ltb, length}
use Rattle.octets.specs.Pick.{pick}
use Rattle.xml.specs.Token.{Token, char_byte, reference_to, no_token, reference, literal_byte}
use Rattle.xml.specs.declared.CharRead.{CharRead}

unfoldable pub char_token : ℕ → List ℕ → Token
char_token b s = pick (eqb b 60) no_token (pick (eqb b 38) (reference s) (literal_byte b s))

unfoldable pub char_in : List ℕ → Token
char_in [] = no_token
char_in (b ∷ s) = char_token b s

-- a byte, 256 for none, a reference's code point above 256; and the place after it
abbrev pub stated : ℕ → CharRead → Token
stated at r =
    pick (eqb r.u 256) no_token
    (pick (ltb r.u 256) (char_byte r.u (r.next - at)) (reference_to (r.u - 257) (r.next - at)))

-- `inside`: unless there is none, it ends within the length;   `wide`: a reference takes four bytes at least
pub record Character (t : Token) (s : List ℕ) (at : ℕ) (r : CharRead) : Type 0 where
  pub is : t ≡ stated at r
  pub high : r.u < 257 + 0x110000
  pub inside : (r.u ≡ 256 → ⊥) → (at ≤ r.next) × (r.next ≤ length s)
  pub wide : 256 < r.u → at + 3 ≤ r.next
