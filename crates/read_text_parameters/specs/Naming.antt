-- The name that stands from a cursor on.
--     name_unit u      a character of a name, in capitals; 256 where there is another, or the end
--     name_at m s c    the name from the cursor c on, in capitals
--     NameAt m s c a   the parameter at the cursor c has the name at a's cursor;   NameIf: if there is one
use Rattle.std.specs.Prelude.{◌≡◌, List, ◌∷◌, ℕ, ◌≤◌, ◌<◌, Option, None, Some}
use Rattle.octets.specs.Pick.{pick}
use Rattle.octets.specs.Class.{is_name_char, upper_byte, upper}
use Rattle.octets.specs.Runs.{run_of}
use Rattle.source.specs.Source.{rest}
use Rattle.read_text_line.specs.Cursor.{params_at}
use Rattle.read_text_parameters.specs.Comparing.{names_of}
use Rattle.read_text_parameters.specs.declared.named.NameCursors.{NameCursors}

abbrev pub name_unit : ℕ → ℕ
name_unit u = pick (is_name_char u) (upper_byte u) 256

unfoldable pub name_at : ℕ → List ℕ → ℕ → List ℕ
name_at m s c = upper (run_of is_name_char (rest m s c))

pub record NameAt (m : ℕ) (s : List ℕ) (c : ℕ) (a : NameCursors) : Type 0 where
  pub is : names_of (params_at m s c) ≡ name_at m s a.name ∷ names_of (params_at m s a.next)
  pub onward : c ≤ a.name
  pub past : a.name < a.next

abbrev pub NameIf : ℕ → List ℕ → ℕ → Option NameCursors → Type 0
NameIf m s c (Some a) = NameAt m s c a
NameIf m s c None = Unit {0}
