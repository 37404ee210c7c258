-- The root of a document, found by its tag.
--     RootNode     the contract of `root_node`: what the root is, always that of a document within the XML profile; `no_root` where there is none
--     no_root      what is answered without a root's tag;   root_of: the element that an answer stands for
use Rattle.std.specs.Prelude.{◌≡◌, List, ℕ, ◌≤◌, length}
use Rattle.calendar.specs.Refusal.{fine}
use Rattle.xml.specs.Nodes.{Nodes, no_nodes, element, document_nodes}
use Rattle.xml.specs.NodesAt.{nodes_at}
use Rattle.xml.specs.WellFormed.{xml_verdict}
use Rattle.read_xml_nodes.specs.Elements.{name_at}
use Rattle.read_xml_nodes.specs.declared.Element.{Element}

abbrev pub no_root : Element
no_root = record { place = 0; name = 0; name_end = 0; inside = 0; end = 0 }

abbrev pub root_of : List ℕ → Element → Nodes
root_of s r = element r.place (name_at s r) r.end (nodes_at s r.inside) no_nodes

pub record RootNode (s : List ℕ) (r : Element) : Type 0 where
  pub is : xml_verdict s ≡ fine → document_nodes s ≡ root_of s r
  pub found : (document_nodes s ≡ no_nodes → ⊥) → document_nodes s ≡ root_of s r
  pub missing : document_nodes s ≡ no_nodes → r ≡ no_root
  pub name_within : r.name_end ≤ length s
