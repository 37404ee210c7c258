-- Parts of a parameter written one after another.
--     opening n                           what stands before a parameter's values: ";" name "="
use Rattle.std.specs.Prelude.{List, [], ◌∷◌, ℕ}
use Rattle.octets.specs.Append.{◌⊕◌}

abbrev pub opening : List ℕ → List ℕ
opening n = 59 ∷ (n ⊕ 61 ∷ [])
