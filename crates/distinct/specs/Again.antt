-- The first word of a list that comes again.
--     first_again before ws    how many words of ws stand before the first that is one of `before` or of those before it; their number where there is none
use Rattle.std.specs.Prelude.{List, [], ◌∷◌, ℕ, suc}
use Rattle.octets.specs.Pick.{pick}
use Rattle.octets.specs.Words.{is_one_of}

unfoldable pub first_again : List (List ℕ) → List (List ℕ) → ℕ
first_again before [] = 0
first_again before (w ∷ ws) = pick (is_one_of w before) 0 (suc (first_again (w ∷ before) ws))
