-- The open arrays and objects as one number: a 1, then a bit for each, the innermost lowest, 0 for an array and 1 for an object.
--     coded                that number
--     around_of, outer_of  the innermost, and the number without it, from the number
use Rattle.std.specs.Prelude.{List, [], ◌∷◌, ℕ, ◌+◌, ◌*◌, ◌/◌, ◌%◌, eqb, ltb}
use Rattle.octets.specs.Pick.{pick}
use Rattle.json_text.specs.Check.{Container, array, object}
use Rattle.json_text.specs.declared.Around.{Around}
use Rattle.json_text.specs.declared.Around.TheVariants.{Nothing, Array, Object}

unfoldable pub coded : List Container → ℕ
coded [] = 1
coded (array ∷ cs) = coded cs * 2
coded (object ∷ cs) = coded cs * 2 + 1

-- the innermost, from the number
abbrev pub around_of : ℕ → Around
around_of n = pick (ltb n 2) Nothing (pick (eqb (n % 2) 0) Array Object)

-- the number without the innermost
abbrev pub outer_of : ℕ → ℕ
outer_of n = pick (ltb n 2) n (n / 2)
