-- `write_text_values::typed::find_typed` meets its contract.
use Rattle.read_xml_nodes.specs.laws.HeadFound.{tag_within, end_less, head_literal_less, head_referred_less}
use Rattle.std.proofs.Common.{inl, inr}
use Prim.Native.Nat.{◌-◌}
use lib.ListN.{length}
use Rattle.xcal.specs.ValueNodes.{typed_values}
use Rattle.write_text_values.specs.laws.Walking.{Seeking}
use Rattle.write_text_values.specs.laws.Typed.{typings, typed_none, typed_here, typed_other, typed_literal, typed_referred}
use borrow.Author.Rules.{rules}
use Rattle.write_text_values.proofs.typed.find_typed.Goals as goal

pub values-init : goal.values-init
values-init c = search typings

pub returns-in-Absent : goal.returns-in-Absent
returns-in-Absent c = typed_none c.values.invariant c.node_head-n.ensures c.in-Absent.is

pub returns-in-Some : goal.returns-in-Some
returns-in-Some c = typed_here c.values.invariant c.node_head-n.ensures c.in-Element.is c.element_type.ensures c.in-Some.is

pub node_end-c-requires : goal.node_end-c-requires
node_end-c-requires c = tag_within c.node_head-n.ensures c.in-Element.is

pub values-smaller-in-Element : goal.values-smaller-in-Element
values-smaller-in-Element c = end_less c.node_head-n.ensures c.in-Element.is c.node_end-c.ensures

pub values-preserved-in-Element : goal.values-preserved-in-Element
values-preserved-in-Element c = typed_other c.values.invariant c.node_head-n.ensures c.in-Element.is c.element_type.ensures c.node_end-c.ensures c.in_default.is

pub values-smaller : goal.values-smaller
values-smaller c = elim c.in-Literal.is [ inl q ↦ head_literal_less c.node_head-n.ensures q | inr q ↦ head_referred_less c.node_head-n.ensures q ]

pub values-preserved : goal.values-preserved
values-preserved c = elim c.in-Literal.is [ inl q ↦ typed_literal c.values.invariant c.node_head-n.ensures q | inr q ↦ typed_referred c.values.invariant c.node_head-n.ensures q ]
