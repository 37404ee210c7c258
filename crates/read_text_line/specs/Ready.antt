-- Cursors where a line may begin, and their places.
--     Ready            reached from the start, and a byte stands there unless it is the end
use Rattle.std.specs.Prelude.{◌≡◌, true, List, [], ℕ, ◌≤◌, length}
use Rattle.source.specs.Source.{rest, cuts}
use Rattle.read_text_line.specs.Cursor.{Onward}

pub record Ready (m : ℕ) (s : List ℕ) (c : ℕ) : Type 0 where
  pub cut : cuts m ≡ true
  pub most : c ≤ length s
  pub to : Onward m s 0 c
  pub some_byte : rest m s c ≡ [] → length s ≤ c
