-- The end tag of an open element, and what follows it.
--     EndedAt     the contract of `element_end`
use Rattle.std.specs.Prelude.{◌≡◌, List, ℕ, ◌≤◌, length}
use Rattle.xml.specs.Nodes.{nodes, end_place}
use Rattle.xml.specs.NodesAt.{marks_at, nodes_at}
use Rattle.read_xml_nodes.specs.declared.Ended.{Ended}

pub record EndedAt (s : List ℕ) (from : ℕ) (r : Ended) : Type 0 where
  pub place : end_place (marks_at s from) 0 ≡ r.place
  pub after : nodes (marks_at s from) 1 ≡ nodes_at s r.next
  pub onward : from ≤ r.next
  pub inside : r.next ≤ length s
