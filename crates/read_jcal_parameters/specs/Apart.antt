-- The names of the members of an object.
--     names_of          the names of members
--     names_at s p      those of the members from p on
use Rattle.std.specs.Prelude.{List, map, ℕ}
use Rattle.json_text.specs.Tree.{Member}
use Rattle.read_jcal_parameters.specs.Shapes.{parameters_at}

abbrev pub names_of : List Member → List (List ℕ)
names_of ms = map (λ (m : Member). m.name) ms

unfoldable pub names_at : List ℕ → ℕ → List (List ℕ)
names_at s p = names_of (parameters_at s p)
