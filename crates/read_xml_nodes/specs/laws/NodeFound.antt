-- Laws of what specs/NodeFound.antt defines.
--     node_none, node_element, node_literal, node_referred    the content, by the kind of node
--     node_less_..       a node takes bytes;   `search nodes_found` for the answers of `next_node`
use Rattle.std.specs.Prelude.{◌≡◌, List, ℕ, ◌-◌, ◌<◌, length, take}
use Rattle.std.proofs.Common.{ap, subst, ◌∙◌, arith, rules}
use Rattle.std.proofs.Math.Logic.{◌⊎◌, inl, inr}
use Prim.{tt}
use Rattle.utf8.specs.Spell.{spell}
use Rattle.source.specs.Source.{rest}
use Rattle.xml.specs.Nodes.{no_nodes, element, literal, referred}
use Rattle.xml.specs.NodesAt.{nodes_at}
use Rattle.read_xml_nodes.specs.HeadFound.{Takes, HeadAt, NodeEnded}
use Rattle.read_xml_nodes.specs.laws.HeadFound.{head_none, tag_within, head_whole, head_onward, end_onward, head_literal, head_literal_onward, head_referred, head_referred_onward}
use Rattle.read_xml_nodes.specs.NodeFound.{node_by, NodeAt, no_node, character_node}
use Rattle.read_xml_nodes.specs.declared.Ended.{Ended}
use Rattle.read_xml_nodes.specs.declared.Head.{Head}
use Rattle.read_xml_nodes.specs.declared.Node.{Node}
use Rattle.read_xml_nodes.specs.declared.NodeKind.{NodeKind}
use Rattle.read_xml_nodes.specs.declared.NodeKind.TheVariants.{Absent, Element, Literal, Referred}

-- ---- by the kind of node

module _ {s : List ℕ} {at : ℕ} {r : Node} (n : NodeAt s at r) where
  by_kind : (k : NodeKind) → r.kind ≡ k → nodes_at s at ≡ node_by k s at r
  by_kind k q = n.is ∙ ap (λ (x : NodeKind). node_by x s at r) q

  takes_by : (k : NodeKind) → r.kind ≡ k → Takes k at r.inside r.next
  takes_by k q = subst (λ (x : NodeKind). Takes x at r.inside r.next) q n.takes

  pub node_none : r.kind ≡ Absent → nodes_at s at ≡ no_nodes
  node_none q = by_kind Absent q

  module _ (q : r.kind ≡ Element) where
    pub node_element : nodes_at s at ≡ element at (rest 0 (take r.name_end s) r.name) r.end (nodes_at s r.inside) (nodes_at s r.next)
    node_element = by_kind Element q

    pub element_onward : (at < r.next) × (at < r.inside)
    element_onward = takes_by Element q

    pub element_less : length s - r.next < length s - at
    element_less = omega (arith, element_onward, n.next_within)

    pub inside_less : length s - r.inside < length s - at
    inside_less = omega (arith, element_onward, n.inside_within)

  module _ (q : r.kind ≡ Literal) where
    pub node_literal : nodes_at s at ≡ literal at r.unit (nodes_at s r.next)
    node_literal = by_kind Literal q

    pub literal_onward : at < r.next
    literal_onward = takes_by Literal q

    pub literal_less : length s - r.next < length s - at
    literal_less = omega (arith, literal_onward, n.next_within)

  module _ (q : r.kind ≡ Referred) where
    pub node_referred : nodes_at s at ≡ referred at (spell r.unit) (nodes_at s r.next)
    node_referred = by_kind Referred q

    pub referred_onward : at < r.next
    referred_onward = takes_by Referred q

    pub referred_less : length s - r.next < length s - at
    referred_less = omega (arith, referred_onward, n.next_within)

  pub character_less : (r.kind ≡ Literal) ⊎ (r.kind ≡ Referred) → length s - r.next < length s - at
  character_less (inl q) = literal_less q
  character_less (inr q) = referred_less q

-- the measure of a walk falls with each node
pub ruleset node_less = (element_less, inside_less, literal_less, referred_less, character_less)

-- ---- what `next_node` answers

module _ {s : List ℕ} {at : ℕ} {h : Head} (n : HeadAt s at h) where
  pub whole_none : {r : Node} → h.kind ≡ Absent → r ≡ no_node (length s) → NodeAt s at r
  whole_none q e = rw e (record { is = head_none n q; named = omega arith; name_within = omega arith; inside_within = omega arith; next_within = omega arith; takes = tt })

  pub whole_element : {e : Ended} → h.kind ≡ Element → NodeEnded s at h.opens h.next e →
      NodeAt s at (record { kind = Element; name = h.name; name_end = h.name_end; inside = h.inside; end = e.place; next = e.next; unit = 0 })
  whole_element q d = record {
    is = head_whole n q d;
    named = n.named;
    name_within = n.name_within;
    inside_within = n.inside_within;
    next_within = d.within;
    takes = (end_onward n q d, (head_onward n q).1);
  }

  pub whole_literal : {r : Node} → h.kind ≡ Literal → r ≡ character_node Literal (length s) h.unit h.next → NodeAt s at r
  whole_literal q e = rw e (record {
    is = head_literal n q;
    named = omega arith;
    name_within = omega arith;
    inside_within = omega arith;
    next_within = n.next_within;
    takes = head_literal_onward n q;
  })

  pub whole_referred : {r : Node} → h.kind ≡ Referred → r ≡ character_node Referred (length s) h.unit h.next → NodeAt s at r
  whole_referred q e = rw e (record {
    is = head_referred n q;
    named = omega arith;
    name_within = omega arith;
    inside_within = omega arith;
    next_within = n.next_within;
    takes = head_referred_onward n q;
  })

pub ruleset nodes_found = (tag_within, whole_none, whole_element, whole_literal, whole_referred, rules)
