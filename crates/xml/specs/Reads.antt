-- What is written is read back as marks: start tags, end tags and character data, at any place and before anything that may follow.
--     is_name           the names that can be written
use Rattle.std.specs.Prelude.{Bool, false, List, [], ◌∷◌, ℕ, ◌+◌, eqb, length}
use Rattle.octets.specs.Pick.{pick, ◌and◌, ◌or◌}
use Rattle.octets.specs.Scan.{all_of}
use Rattle.octets.specs.Class.{is_alpha, is_name_char}
use Rattle.xml.specs.Marks.{Mark, char, refers}
use Rattle.xml.specs.Escape.{escaped_byte}

-- a letter, and then letters, digits, hyphens
unfoldable pub is_name : List ℕ → Bool
is_name [] = false
is_name (a ∷ w) = is_alpha a and all_of is_name_char (a ∷ w)

-- ---- character data

-- the characters that are written as entities
abbrev pub is_escaped : ℕ → Bool
is_escaped b = eqb b 38 or eqb b 60 or eqb b 62

abbrev pub character_mark : ℕ → ℕ → Mark
character_mark p b = pick (is_escaped b) (refers p (b ∷ [])) (char p b)

-- the marks of character data that is written at the place p
unfoldable pub character_marks : List ℕ → ℕ → List Mark
character_marks [] p = []
character_marks (b ∷ s) p = character_mark p b ∷ character_marks s (p + length (escaped_byte b))
