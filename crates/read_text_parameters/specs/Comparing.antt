-- Names compared in any case.
--     names_of               the names of parameters, in capitals
--     onto                   names, the last first, in front of others
--     Comparing m s e k c    the first k names from the cursor e on, up to the cursor c: none of them comes again
use Rattle.std.specs.Prelude.{◌≡◌, List, [], ◌∷◌, map, ℕ, ◌+◌, ◌≤◌, length}
use Rattle.octets.specs.Class.{upper}
use Rattle.distinct.specs.Again.{first_again}
use Rattle.read_text_line.specs.ContentLine.{RawParameter}
use Rattle.read_text_line.specs.Cursor.{params_at}

abbrev pub names_of : List RawParameter → List (List ℕ)
names_of rs = map (λ (r : RawParameter). upper r.name) rs

unfoldable pub onto : List (List ℕ) → List (List ℕ) → List (List ℕ)
onto [] ns = ns
onto (w ∷ before) ns = onto before (w ∷ ns)

pub record Comparing (m : ℕ) (s : List ℕ) (e k c : ℕ) : Type 0 where
  pub before : List (List ℕ)
  pub names : names_of (params_at m s e) ≡ onto before (names_of (params_at m s c))
  pub count : length before ≡ k
  pub comes : first_again [] (names_of (params_at m s e)) ≡ k + first_again before (names_of (params_at m s c))
  pub past : k ≤ c
