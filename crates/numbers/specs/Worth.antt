-- What digits are worth, with zeros in front of them and after them.
--     zeros k            k zeros, 48 each
use Rattle.std.specs.Prelude.{List, [], ◌∷◌, ℕ, zero, suc}

unfoldable pub zeros : ℕ → List ℕ
zeros zero = []
zeros (suc k) = 48 ∷ zeros k
