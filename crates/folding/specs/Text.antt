-- A text: content lines, one after another.
--     folded_text ls     content lines as they are written
use Rattle.std.specs.Prelude.{Bool, true, false, List, [], ◌∷◌, map, ℕ, ◌+◌, length}
use Rattle.octets.specs.Pick.{pick}
use Rattle.octets.specs.Append.{joined}
use Rattle.folding.specs.Unfold.{blank_at}
use Rattle.folding.specs.Lines.{Line, whole}
use Rattle.folding.specs.Fold.{folded_line}

abbrev pub folded_text : List (List ℕ) → List ℕ
folded_text ls = joined (map folded_line ls)

-- no line begins with a space or a TAB
unfoldable pub none_blank : List (List ℕ) → Bool
none_blank [] = true
none_blank (l ∷ ls) = pick (blank_at l) false (none_blank ls)

-- lines as they stand in a plain text that starts at index p
unfoldable pub whole_lines : ℕ → List (List ℕ) → List Line
whole_lines p [] = []
whole_lines p (l ∷ ls) = whole p l ∷ whole_lines (p + length l + 2) ls
