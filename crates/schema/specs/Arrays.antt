-- The tallies of a component in an array, one for each known property, counted to 255.
--     bumped         one more of the property of a number; of an unrecognised one, nothing
--     tallies        the tallies of a list of properties
--     each_from      a test of k numbers from i on
use Rattle.std.specs.Prelude.{Bool, true, List, [], ◌∷◌, ℕ, zero, suc, min, get_or, set, replicate}
use Rattle.octets.specs.Pick.{◌and◌}
use Rattle.names.specs.Table.{place_of}
use Rattle.calendar.specs.Calendar.{Property}
use Rattle.schema.specs.Properties.{property_names}

unfoldable pub bumped : ℕ → List ℕ → List ℕ
bumped n t = set t n (min 255 (suc (get_or t n 0)))

unfoldable pub tallies : List Property → List ℕ
tallies [] = replicate 46 0
tallies (p ∷ ps) = bumped (place_of p.name property_names) (tallies ps)

-- ---- a loop over numbers

unfoldable pub each_from : ℕ → ℕ → (ℕ → Bool) → Bool
each_from i zero f = true
each_from i (suc k) f = f i and each_from (suc i) k f
