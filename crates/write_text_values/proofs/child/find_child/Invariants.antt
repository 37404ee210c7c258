-- `write_text_values::child::find_child` meets its contract.
use Rattle.read_xml_nodes.specs.laws.HeadFound.{tag_within, end_less, head_literal_less, head_referred_less}
use Prim.Native.Nat.{◌-◌}
use lib.ListN.{length}
use lib.Seq.{length-take-le}
use Rattle.write_text_values.specs.laws.Children.{Naming, children, child_none, child_here, child_other, child_literal, child_referred}
use borrow.Author.Rules.{rules}
use Rattle.write_text_values.proofs.child.find_child.Given as goal

abbrev pub invariant-children : goal.invariant-children
invariant-children l = Naming l.name l.s l.inside l.c

abbrev pub decreases-children : goal.decreases-children
decreases-children l = length l.s - l.c
