-- The place of a fault in a line, found by a cursor.
--     NameAt        the cursor of the name of a parameter by its number
--     PlaceOf       the cursor of a place, of a line by its cursors
--     OffsetAt      the same in the bytes of a line;   PlaceAt: in a text
use Rattle.std.specs.Prelude.{◌≡◌, List, ◌∷◌, ℕ, ◌+◌, ◌≤◌, length}
use Rattle.source.specs.Source.{rest}
use Rattle.read_text_line.specs.Cursor.{Onward}
use Rattle.read_text_line.specs.LineEnd.{index}
use Rattle.read_text_line.specs.declared.LineCursors.{LineCursors}
use Rattle.text.specs.Faults.{Where, line_start, parameter_name, value_start, behind, offset}

-- c is the cursor of the name of parameter number i, of those from the cursor e on: behind i parameters stands a semicolon, 59, and then the name
pub record NameAt (m : ℕ) (s : List ℕ) (e i c : ℕ) : Type 0 where
  pub is : behind i (rest m s e) ≡ 59 ∷ rest m s c
  pub to : Onward m s e c

abbrev pub PlaceOf : ℕ → List ℕ → LineCursors → Where → ℕ → Type 0
PlaceOf m s l line_start c = c ≡ l.name
PlaceOf m s l (parameter_name i) c = NameAt m s l.parameters i c
PlaceOf m s l value_start c = c ≡ l.value

-- of the line that is all that stands from `at` on
pub record OffsetAt (m : ℕ) (s : List ℕ) (at : ℕ) (w : Where) (c : ℕ) : Type 0 where
  pub is : length (rest m s at) ≡ offset (rest m s at) w + length (rest m s c)
  pub to : Onward m s at c

-- of the line that begins at `at` and has these bytes
pub record PlaceAt (m : ℕ) (s : List ℕ) (at : ℕ) (bytes : List ℕ) (w : Where) (c : ℕ) : Type 0 where
  pub is : index m s c ≡ index m s at + offset bytes w
  pub most : c ≤ length s
