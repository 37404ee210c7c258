-- The characters that stand directly in an element, read through the cursor: its mode 1, from twice a place on.
--     characters_at    they are those of the element's content
use Rattle.std.specs.Prelude.{◌≡◌, List, ℕ, ◌*◌}
use Rattle.source.specs.Source.{rest}
use Rattle.source.specs.laws.Characters.{rest_place}
use Rattle.xml.specs.Nodes.{characters_of}
use Rattle.xml.specs.NodesAt.{nodes_at, chars_at}

pub characters_at : (s : List ℕ) (p : ℕ) → rest 1 s (2 * p) ≡ characters_of (nodes_at s p)
unfolding chars_at
characters_at s p = rest_place s p
