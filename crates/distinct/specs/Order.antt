-- An order of words.
--     order s t            0 where s and t are the same, 1 where s goes before t, 2 where it goes behind: by the first byte that differs; a word goes before what it starts with
use Rattle.std.specs.Prelude.{List, [], ◌∷◌, ℕ, ltb}
use Rattle.octets.specs.Pick.{pick}

unfoldable pub order : List ℕ → List ℕ → ℕ
order [] [] = 0
order [] (y ∷ t) = 2
order (x ∷ s) [] = 1
order (x ∷ s) (y ∷ t) = pick (ltb x y) 1 (pick (ltb y x) 2 (order s t))
