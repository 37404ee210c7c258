-- Tables of numbers that a definition fills: the constants of the code are these lists by computation.
--     tabled        f of each of a run of numbers
use Rattle.std.specs.Prelude.{List, [], ◌∷◌, ℕ, zero, suc}

unfoldable pub tabled : (ℕ → ℕ) → ℕ → ℕ → List ℕ
tabled f i zero = []
tabled f i (suc k) = f i ∷ tabled f (suc i) k
