-- The content of an open element from a place on, by the token that stands there.
--     marks_at s p    the marks from the place p on
--     nodes_at s p    the nodes from the place p on, up to the end tag
--     chars_at s p    the bytes of its characters, up to a tag
use Rattle.std.specs.Prelude.{List, ℕ, drop}
use Rattle.xml.specs.Marks.{Mark, marks}
use Rattle.xml.specs.Nodes.{Nodes, nodes, characters_of}

unfoldable pub marks_at : List ℕ → ℕ → List Mark
marks_at s p = marks p (drop p s)

unfoldable pub nodes_at : List ℕ → ℕ → Nodes
nodes_at s p = nodes (marks_at s p) 0

unfoldable pub chars_at : List ℕ → ℕ → List ℕ
chars_at s p = characters_of (nodes_at s p)
