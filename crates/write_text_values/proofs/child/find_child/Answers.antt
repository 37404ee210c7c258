-- `write_text_values::child::find_child` meets its contract.
use Rattle.read_xml_nodes.specs.laws.HeadFound.{tag_within, end_less, head_literal_less, head_referred_less}
use Rattle.std.proofs.Common.{inl, inr}
use Prim.Native.Nat.{◌-◌}
use lib.ListN.{length}
use lib.Seq.{length-take-le}
use Rattle.write_text_values.specs.laws.Children.{Naming, children, child_none, child_here, child_other, child_literal, child_referred}
use borrow.Author.Rules.{rules}
use Rattle.write_text_values.proofs.child.find_child.Goals as goal

pub children-init : goal.children-init
children-init c = search children

pub returns-in-Absent : goal.returns-in-Absent
returns-in-Absent c = child_none c.children.invariant c.node_head-n.ensures c.in-Absent.is

pub slice_bounds-is_word-end : goal.slice_bounds-is_word-end
slice_bounds-is_word-end c = search (length-take-le, rules)

pub returns-then-is_word : goal.returns-then-is_word
returns-then-is_word c = child_here c.children.invariant c.node_head-n.ensures c.in-Element.is c.is_word.ensures c.if-is_word.true

pub node_end-c-requires : goal.node_end-c-requires
node_end-c-requires c = tag_within c.node_head-n.ensures c.in-Element.is

pub children-smaller-in-Element : goal.children-smaller-in-Element
children-smaller-in-Element c = end_less c.node_head-n.ensures c.in-Element.is c.node_end-c.ensures

pub children-preserved-in-Element : goal.children-preserved-in-Element
children-preserved-in-Element c = child_other c.children.invariant c.node_head-n.ensures c.in-Element.is c.is_word.ensures c.node_end-c.ensures c.if-is_word.false

pub children-smaller : goal.children-smaller
children-smaller c = elim c.in-Literal.is [ inl q ↦ head_literal_less c.node_head-n.ensures q | inr q ↦ head_referred_less c.node_head-n.ensures q ]

pub children-preserved : goal.children-preserved
children-preserved c = elim c.in-Literal.is [ inl q ↦ child_literal c.children.invariant c.node_head-n.ensures q | inr q ↦ child_referred c.children.invariant c.node_head-n.ensures q ]
