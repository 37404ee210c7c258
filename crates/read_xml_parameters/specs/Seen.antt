-- The names of the elements before a place.
--     is_before m k kids   an element named m stands before the place k
use Rattle.std.specs.Prelude.{Bool, false, List, ℕ, ltb}
use Rattle.octets.specs.Pick.{◌and◌, ◌or◌}
use Rattle.octets.specs.Words.{same}
use Rattle.xml.specs.Nodes.{Nodes, no_nodes, element, literal, referred}

unfoldable pub is_before : List ℕ → ℕ → Nodes → Bool
is_before m k no_nodes = false
is_before m k (literal p b more) = is_before m k more
is_before m k (referred p bs more) = is_before m k more
is_before m k (element p n x kids more) = ltb p k and (same n m or is_before m k more)
