-- `write_text_values::rule::find_item` meets its contract.
use Rattle.std.proofs.Common.{inl, inr}
use Prim.Native.Nat.{◌-◌}
use lib.ListN.{length}
use Rattle.read_xml_nodes.specs.laws.NodeFound.{element_less, literal_less, referred_less}
use Rattle.write_text_values.specs.laws.Rules.{Listing, items, item_none, item_here, item_other, item_literal, item_referred}
use borrow.Author.Rules.{rules}
use Rattle.write_text_values.proofs.rule.find_item.Goals as goal

pub items-init : goal.items-init
items-init c = search items

pub returns-in-Absent : goal.returns-in-Absent
returns-in-Absent c = item_none c.items.invariant c.next_node-n.ensures c.in-Absent.is

pub part_number-requires : goal.part_number-requires
part_number-requires c = c.next_node-n.ensures.name_within

pub returns-then-part_number-p : goal.returns-then-part_number-p
returns-then-part_number-p c = item_here c.items.invariant c.next_node-n.ensures c.requires c.in-Element.is c.part_number.ensures c.if-part_number-p.true

pub items-smaller-in-Element : goal.items-smaller-in-Element
items-smaller-in-Element c = element_less c.next_node-n.ensures c.in-Element.is

pub items-preserved-in-Element : goal.items-preserved-in-Element
items-preserved-in-Element c = item_other c.items.invariant c.next_node-n.ensures c.requires c.in-Element.is c.part_number.ensures c.if-part_number-p.false

pub items-smaller : goal.items-smaller
items-smaller c = elim c.in-Literal.is [ inl q ↦ literal_less c.next_node-n.ensures q | inr q ↦ referred_less c.next_node-n.ensures q ]

pub items-preserved : goal.items-preserved
items-preserved c = elim c.in-Literal.is [ inl q ↦ item_literal c.items.invariant c.next_node-n.ensures q | inr q ↦ item_referred c.items.invariant c.next_node-n.ensures q ]
