-- Laws of what specs/Pieces.antt defines.
--     has_place p ws     some piece has the name at the place p
--     each_part ws       each piece is a part, and no later piece has its name
--     is_whole ws        FREQ is there; UNTIL and COUNT are not both there
use Rattle.std.specs.Prelude.{Bool, true, false, not, List, [], ◌∷◌, ℕ, eqb}
use Rattle.octets.specs.Pick.{pick, ◌and◌, ◌or◌}
use Rattle.octets.specs.Reading.{is_read}
use Rattle.recur.specs.Rule.{read_part}
use Rattle.recur.specs.Pieces.{place_at}

unfoldable pub has_place : ℕ → List (List ℕ) → Bool
has_place p [] = false
has_place p (w ∷ ws) = eqb (place_at w) p or has_place p ws

unfoldable pub each_part : List (List ℕ) → Bool
each_part [] = true
each_part (w ∷ ws) = is_read (read_part w) and pick (has_place (place_at w) ws) false (each_part ws)

abbrev pub is_whole : List (List ℕ) → Bool
is_whole ws = has_place 0 ws and not (has_place 1 ws and has_place 2 ws)
