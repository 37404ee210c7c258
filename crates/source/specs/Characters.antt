-- The characters of an XML element from a cursor on. A cursor is twice the place where a character begins. Within the character that a reference names,
-- after j of its bytes, it is 2 * (p + j) - 1, where p is the place of the reference's `&`; so it grows, and stays below twice the length.
--     remaining t j    what is left of the character of the reference t at the place p after j bytes of it, and what follows it
--     chars_from s c   the bytes of the characters from the cursor c on, up to a tag
use Rattle.std.specs.Prelude.{List, [], ℕ, ◌+◌, ◌-◌, ◌/◌, ◌%◌, eqb, ltb, length, drop}
use Rattle.octets.specs.Pick.{pick}
use Rattle.octets.specs.Append.{◌⊕◌}
use Rattle.utf8.specs.Spell.{spell}
use Rattle.xml.specs.Token.{Token, s_tag, empty_elem_tag, e_tag, char_byte, reference_to, no_token}
use Rattle.xml.specs.NodesAt.{chars_at}
use Rattle.xml.specs.CharAt.{char_in}
use Rattle.source.specs.Mark.{mark_before}

unfoldable pub remaining : Token → ℕ → List ℕ → ℕ → List ℕ
remaining (s_tag nm k) j s p = []
remaining (empty_elem_tag nm k) j s p = []
remaining (e_tag nm k) j s p = []
remaining (char_byte c k) j s p = []
remaining (reference_to v k) j s p = pick (ltb j (length (spell v))) (drop j (spell v) ⊕ chars_at s (p + 1 + k)) []
remaining no_token j s p = []

-- within the reference at the `&` before q
unfoldable pub chars_within : List ℕ → ℕ → List ℕ
chars_within s q = let p = mark_before 38 s q in remaining (char_in (drop p s)) (q - p + 1) s p

unfoldable pub chars_from : List ℕ → ℕ → List ℕ
chars_from s c = pick (eqb (c % 2) 0) (chars_at s (c / 2)) (chars_within s (c / 2))
