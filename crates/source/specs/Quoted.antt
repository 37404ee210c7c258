-- The characters of a JSON string from a cursor on. A cursor is twice the place where a character begins. Within the character that an escape of digits names,
-- after j of its bytes, it is 2 * (p + j) - 1, where p is the place of the escape's reverse solidus; so it grows, and stays below twice the length.
--     left_of t j      what is left of the character t at the place p after j bytes of it, and what follows it
--     quoted_from s c  the bytes of the characters from the cursor c on, up to the string's end
use Rattle.std.specs.Prelude.{List, [], ℕ, ◌+◌, ◌-◌, ◌/◌, ◌%◌, eqb, ltb, length, drop}
use Rattle.octets.specs.Pick.{pick}
use Rattle.octets.specs.Append.{◌⊕◌}
use Rattle.json_text.specs.Strings.{Char, closing, char, characters}
use Rattle.json_text.specs.CharAt.{char_in}
use Rattle.source.specs.Mark.{mark_before}

unfoldable pub left_of : Char → ℕ → List ℕ → ℕ → List ℕ
left_of closing j s p = []
left_of (char bs k) j s p = pick (ltb j (length bs)) (drop j bs ⊕ characters (drop (p + 1 + k) s)) []

-- within the escape at the reverse solidus before q
unfoldable pub quoted_within : List ℕ → ℕ → List ℕ
quoted_within s q = let p = mark_before 92 s q in left_of (char_in (drop p s)) (q - p + 1) s p

unfoldable pub quoted_from : List ℕ → ℕ → List ℕ
quoted_from s c = pick (eqb (c % 2) 0) (characters (drop (c / 2) s)) (quoted_within s (c / 2))
