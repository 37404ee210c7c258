-- The node at a place in the content of an element.
--     node_of, NodeAt     what a node that was found says of the content from its place on, and its bounds: the contract of `next_node`
use Rattle.std.specs.Prelude.{◌≡◌, List, ℕ, ◌≤◌, length, take}
use Rattle.utf8.specs.Spell.{spell}
use Rattle.source.specs.Source.{rest}
use Rattle.xml.specs.Nodes.{Nodes, no_nodes, element, literal, referred}
use Rattle.xml.specs.NodesAt.{nodes_at}
use Rattle.read_xml_nodes.specs.HeadFound.{Takes}
use Rattle.read_xml_nodes.specs.declared.Node.{Node}
use Rattle.read_xml_nodes.specs.declared.NodeKind.{NodeKind}
use Rattle.read_xml_nodes.specs.declared.NodeKind.TheVariants.{Absent, Element, Literal, Referred}

-- the content from the place of a node on
abbrev pub node_by : NodeKind → List ℕ → ℕ → Node → Nodes
node_by Absent s at r = no_nodes
node_by Element s at r = element at (rest 0 (take r.name_end s) r.name) r.end (nodes_at s r.inside) (nodes_at s r.next)
node_by Literal s at r = literal at r.unit (nodes_at s r.next)
node_by Referred s at r = referred at (spell r.unit) (nodes_at s r.next)

abbrev pub node_of : List ℕ → ℕ → Node → Nodes
node_of s at r = node_by r.kind s at r

pub record NodeAt (s : List ℕ) (at : ℕ) (r : Node) : Type 0 where
  pub is : nodes_at s at ≡ node_of s at r
  pub named : r.name ≤ r.name_end
  pub name_within : r.name_end ≤ length s
  pub inside_within : r.inside ≤ length s
  pub next_within : r.next ≤ length s
  pub takes : Takes r.kind at r.inside r.next

-- ---- what `next_node` answers

abbrev pub no_node : ℕ → Node
no_node e = record { kind = Absent; name = 0; name_end = 0; inside = e; end = 0; next = e; unit = 0 }

abbrev pub character_node : NodeKind → ℕ → ℕ → ℕ → Node
character_node k e u next = record { kind = k; name = 0; name_end = 0; inside = e; end = 0; next = next; unit = u }
