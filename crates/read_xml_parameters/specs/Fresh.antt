-- The first names of elements, where no two are the same.
--     first_names kids k       the names of the first k elements, in capitals
--     Collected                names collected by their cuts
use Rattle.std.specs.Prelude.{◌≡◌, List, [], ◌∷◌, ℕ, ◌-◌, ◌≤◌, eqb}
use Rattle.octets.specs.Pick.{pick}
use Rattle.octets.specs.Class.{upper}
use Rattle.xml.specs.Nodes.{Nodes, no_nodes, element, literal, referred}
use Rattle.xml.specs.NodesAt.{nodes_at}
use Rattle.distinct.specs.Listed.{word_at, listed}

unfoldable pub first_names : Nodes → ℕ → List (List ℕ)
first_names no_nodes k = []
first_names (literal p b more) k = first_names more k
first_names (referred p bs more) k = first_names more k
first_names (element p m x kids more) k = pick (eqb k 0) [] (upper m ∷ first_names more (k - 1))

-- ---- names collected

abbrev pub Collected : List ℕ → ℕ → List ℕ → List ℕ → ℕ → Type 0
Collected s from f t n = (m : ℕ) → m ≤ n → first_names (nodes_at s from) m ≡ listed m (word_at 0 s f t) []
