-- The names of a line's parameters, collected by their cursors.
--     Collected s e f t r       where r says how many they are, the names from the cursor e on are those that are collected
use Rattle.std.specs.Prelude.{◌≡◌, List, [], ℕ, Option, None, Some}
use Rattle.read_text_line.specs.Cursor.{params_at}
use Rattle.distinct.specs.Listed.{word_at, listed}
use Rattle.read_text_parameters.specs.Comparing.{names_of}

abbrev pub Collected : ℕ → List ℕ → ℕ → List ℕ → List ℕ → Option ℕ → Type 0
Collected m s e f t (Some n) = names_of (params_at m s e) ≡ listed n (word_at m s f t) []
Collected m s e f t None = Unit {0}
