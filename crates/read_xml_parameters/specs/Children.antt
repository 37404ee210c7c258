-- The elements of a content, one by one, with no regard to the characters between them.
--     from_element           the content from its first element on
--     ChildAt                the contract of `next_child`
use Rattle.std.specs.Prelude.{◌≡◌, true, false, List, ℕ, ◌-◌, ◌≤◌, ◌<◌, length, take, drop}
use Rattle.xml.specs.Nodes.{Nodes, no_nodes, element, literal, referred}
use Rattle.xml.specs.NodesAt.{nodes_at}
use Rattle.read_xml_parameters.specs.declared.Child.{Child}

unfoldable pub from_element : Nodes → Nodes
from_element no_nodes = no_nodes
from_element (literal p b more) = from_element more
from_element (referred p bs more) = from_element more
from_element (element p m x kids more) = element p m x kids more

-- ---- the next element

-- the name of an element, as its bytes are cut out
abbrev pub name_of : List ℕ → ℕ → ℕ → List ℕ
name_of s a e = take (e - a) (drop a s)

abbrev pub child_of : List ℕ → Child → Nodes
child_of s r = element r.place (name_of s r.name r.name_end) r.end (nodes_at s r.inside) (nodes_at s r.next)

pub record ChildAt (s : List ℕ) (at : ℕ) (r : Child) : Type 0 where
  pub some : r.there ≡ true → from_element (nodes_at s at) ≡ child_of s r
  pub none : r.there ≡ false → from_element (nodes_at s at) ≡ no_nodes
  pub named : r.name ≤ r.name_end
  pub name_within : r.name_end ≤ length s
  pub inside_within : r.inside ≤ length s
  pub next_within : r.next ≤ length s
  pub onward : r.there ≡ true → at < r.next
