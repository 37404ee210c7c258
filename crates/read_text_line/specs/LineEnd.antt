-- Where a line of a text ends, found through a cursor. A text may have its folds in place: CR, a fold, LF ends a line.
--     index m s c       how many bytes stand before the cursor c
--     lines_at m s at   the lines from a cursor on
--     EndsLine          the contract of a reader of one line;   LineEnds: it ends at the cursor e, and the next begins at the cursor n
use Rattle.std.specs.Prelude.{◌≡◌, true, List, [], ◌∷◌, ℕ, ◌-◌, ◌≤◌, length, take, Option, None, Some}
use Rattle.octets.specs.Append.{◌⊕◌}
use Rattle.folding.specs.Lines.{Line, lines_from, to_break}
use Rattle.source.specs.Source.{rest, cuts}
use Rattle.read_text_line.specs.Cursor.{Onward}
use Rattle.read_text_line.specs.declared.LineEnding.{LineEnding}

unfoldable pub index : ℕ → List ℕ → ℕ → ℕ
index m s c = length (rest m s 0) - length (rest m s c)

unfoldable pub lines_at : ℕ → List ℕ → ℕ → List Line
lines_at m s c = lines_from (index m s c) (rest m s c)

-- `some_byte`: where n is an index within the length, a byte stands there
pub record LineEnds (m : ℕ) (s : List ℕ) (c e n : ℕ) : Type 0 where
  pub line : Onward m s c e
  pub behind : Onward m s e n
  pub is : cuts m ≡ true → rest m s c ≡ rest m (take e s) c ⊕ (13 ∷ 10 ∷ rest m s n)
  pub first : cuts m ≡ true → to_break (rest m s c) ≡ length (rest m (take e s) c)
  pub some_byte : cuts m ≡ true → rest m s n ≡ [] → length s ≤ n

abbrev pub EndsLine : ℕ → List ℕ → ℕ → Option LineEnding → Type 0
EndsLine m s c (Some w) = LineEnds m s c w.end w.next
EndsLine m s c None = to_break (rest m s c) ≡ length (rest m s c)
