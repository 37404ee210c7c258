-- TEXT followed a byte at a time: whether each byte may stand where it stands, and the characters that are meant.
--     in_text, is_split   whether a byte may stand, and whether all may
--     meant, unescaped    the character that a byte stands for, and all
use Rattle.std.specs.Prelude.{Bool, true, false, List, [], ◌∷◌, ℕ, eqb}
use Rattle.octets.specs.Pick.{pick, ◌and◌, ◌or◌}
use Rattle.texts.specs.Text.{is_break, is_escaped, opens}

-- n and N, which stand for LF after a backslash
abbrev pub is_newline : ℕ → Bool
is_newline b = eqb b 110 or eqb b 78

-- the byte may stand after a backslash
abbrev pub is_escape : ℕ → Bool
is_escape b = pick (is_newline b) true (is_escaped b)

-- the byte may stand: whether a backslash stands open before it, and the separator
abbrev pub in_text : Bool → ℕ → ℕ → Bool
in_text after c b = pick after (is_escape b) (pick (eqb b 92) true (pick (is_break b) (eqb b c) true))

unfoldable pub is_split : Bool → ℕ → List ℕ → Bool
is_split after c [] = pick after false true
is_split after c (b ∷ s) = in_text after c b and is_split (opens after b) c s

-- the character that a byte stands for, where it opens no escape
abbrev pub meant : Bool → ℕ → ℕ
meant after b = pick after (pick (is_newline b) 10 b) b

unfoldable pub unescaped : Bool → List ℕ → List ℕ
unescaped after [] = []
unescaped after (b ∷ s) = pick (opens after b) (unescaped true s) (meant after b ∷ unescaped false s)
