-- Folding (RFC 5545 3.1; the rules, "Lines and folds"): "Lines of text SHOULD NOT be longer than 75 octets, excluding the line break." A line that is written
-- has at most 75 octets before CRLF, the leading space of a continuation counted, and takes as many whole characters as fit. A character is a code point in UTF-8.
--     folded_line s    the content line s as it is written, with its CRLF
use Rattle.std.specs.Prelude.{Bool, true, false, List, [], ◌∷◌, ℕ, suc, ◌+◌, leb, ltb, length}
use Rattle.octets.specs.Pick.{pick, ◌and◌}
use Rattle.octets.specs.Append.{◌⊕◌}
use Rattle.folding.specs.Unfold.{crlf}
use Rattle.folding.specs.Lines.{Line, whole, loose}

abbrev pub longest : ℕ
longest = 75

-- how many octets the character has that begins with octet b (RFC 3629, section 3); an octet 10xxxxxx begins none and counts as itself
abbrev pub width : ℕ → ℕ
width b = pick (ltb b 0xC0) 1 (pick (ltb b 0xE0) 2 (pick (ltb b 0xF0) 3 4))

-- after c octets of a line a character that begins with b does not fit
abbrev pub is_over : ℕ → ℕ → Bool
is_over c b = ltb longest (c + width b)

-- what goes before octet b after c octets of a line, and how many octets the line then has
abbrev pub break_before : ℕ → ℕ → List ℕ
break_before c b = pick (is_over c b) (13 ∷ 10 ∷ 32 ∷ []) []

abbrev pub column_at : ℕ → ℕ → ℕ
column_at c b = pick (is_over c b) 1 c

-- the rest s of a content line, after c octets of a line
unfoldable pub fold_from : ℕ → List ℕ → List ℕ
fold_from c [] = crlf
fold_from c (b ∷ s) = break_before c b ⊕ (b ∷ fold_from (column_at c b + 1) s)

abbrev pub folded_line : List ℕ → List ℕ
folded_line s = fold_from 0 s

-- the same line by line: how many octets of s go on a line that has c, and what is written after them
unfoldable pub taken : ℕ → List ℕ → ℕ
taken c [] = 0
taken c (b ∷ s) = pick (is_over c b) 0 (suc (taken (c + 1) s))

unfoldable pub continued : List ℕ → List ℕ
continued [] = crlf
continued (b ∷ s) = 13 ∷ 10 ∷ 32 ∷ fold_from 1 (b ∷ s)

-- every octet that begins a character has the other octets of that character after it
unfoldable pub in_full : List ℕ → Bool
in_full [] = true
in_full (b ∷ s) = leb (width b) (suc (length s)) and in_full s

-- lines of at most 75 octets, none loose, the first of them after c octets
unfoldable pub fits : ℕ → List Line → Bool
fits c [] = true
fits c (whole p l ∷ ls) = leb (c + length l) longest and fits 0 ls
fits c (loose p ∷ ls) = false
