-- `write_text_values::rule::find_item` meets its contract.
use Prim.Native.Nat.{◌-◌}
use lib.ListN.{length}
use Rattle.read_xml_nodes.specs.laws.NodeFound.{element_less, literal_less, referred_less}
use Rattle.write_text_values.specs.laws.Rules.{Listing, items, item_none, item_here, item_other, item_literal, item_referred}
use borrow.Author.Rules.{rules}
use Rattle.write_text_values.proofs.rule.find_item.Given as goal

abbrev pub invariant-items : goal.invariant-items
invariant-items l = Listing l.p l.s l.at l.c

abbrev pub decreases-items : goal.decreases-items
decreases-items l = length l.s - l.c
