-- The head of the node at a place: all of it but the end of an element.
--     after_tag, end_of_tag  what follows an element, and the place of its end, by the place behind its tag
--     head_of, HeadAt        what a head that was found says of the content from its place on, and its bounds: the contract of `node_head`
--     Takes                  a node takes bytes
--     NodeEnded              the contract of `node_end`
use Rattle.std.specs.Prelude.{◌≡◌, Bool, false, List, ℕ, ◌≤◌, ◌<◌, length, take}
use Prim.{Unit}
use Rattle.octets.specs.Pick.{pick}
use Rattle.utf8.specs.Spell.{spell}
use Rattle.source.specs.Source.{rest}
use Rattle.xml.specs.Nodes.{Nodes, no_nodes, element, literal, referred, nodes, end_place}
use Rattle.xml.specs.NodesAt.{marks_at, nodes_at}
use Rattle.read_xml_nodes.specs.declared.Ended.{Ended}
use Rattle.read_xml_nodes.specs.declared.Head.{Head}
use Rattle.read_xml_nodes.specs.declared.NodeKind.{NodeKind}
use Rattle.read_xml_nodes.specs.declared.NodeKind.TheVariants.{Absent, Element, Literal, Referred}

-- what follows an element whose tag reaches to `next`: behind its end tag, where the tag opens it
abbrev pub after_tag : List ℕ → Bool → ℕ → Nodes
after_tag s opens next = pick opens (nodes (marks_at s next) 1) (nodes_at s next)

-- the place of its end tag; an empty tag's element ends where it starts
abbrev pub end_of_tag : List ℕ → ℕ → Bool → ℕ → ℕ
end_of_tag s at opens next = pick opens (end_place (marks_at s next) 0) at

-- the content from the place of a node on
abbrev pub head_by : NodeKind → List ℕ → ℕ → Head → Nodes
head_by Absent s at h = no_nodes
head_by Element s at h = element at (rest 0 (take h.name_end s) h.name) (end_of_tag s at h.opens h.next) (nodes_at s h.inside) (after_tag s h.opens h.next)
head_by Literal s at h = literal at h.unit (nodes_at s h.next)
head_by Referred s at h = referred at (spell h.unit) (nodes_at s h.next)

abbrev pub head_of : List ℕ → ℕ → Head → Nodes
head_of s at h = head_by h.kind s at h

-- a node of the kind k, unless it is none, takes bytes; so does an element's start tag
abbrev pub Takes : (k : NodeKind) (at inside next : ℕ) → Type 0
Takes Absent at inside next = Unit {0}
Takes Element at inside next = (at < next) × (at < inside)
Takes Literal at inside next = at < next
Takes Referred at inside next = at < next

pub record HeadAt (s : List ℕ) (at : ℕ) (h : Head) : Type 0 where
  pub is : nodes_at s at ≡ head_of s at h
  pub named : h.name ≤ h.name_end
  pub name_within : h.name_end ≤ length s
  pub inside_within : h.inside ≤ length s
  pub next_within : h.next ≤ length s
  pub takes : Takes h.kind at h.inside h.next

pub record NodeEnded (s : List ℕ) (at : ℕ) (opens : Bool) (next : ℕ) (r : Ended) : Type 0 where
  pub place : end_of_tag s at opens next ≡ r.place
  pub after : after_tag s opens next ≡ nodes_at s r.next
  pub onward : next ≤ r.next
  pub within : r.next ≤ length s

-- ---- what `node_head` answers

abbrev pub no_head : ℕ → Head
no_head e = record { kind = Absent; name = 0; name_end = 0; inside = e; opens = false; next = e; unit = 0 }

abbrev pub character_head : NodeKind → ℕ → ℕ → ℕ → Head
character_head k e u next = record { kind = k; name = 0; name_end = 0; inside = e; opens = false; next = next; unit = u }
