-- `read_xml::component::head` meets its contract.
use Prim.Native.Nat.{◌-◌}
use lib.ListN.{length}
use Rattle.read_xml.specs.laws.Components.{Heading}
use Rattle.read_xml.proofs.component.head.Given as goal

abbrev pub invariant-children : goal.invariant-children
invariant-children l = Heading l.edition l.k l.method l.s l.inside l.e l.at l.had l.kept

abbrev pub decreases-children : goal.decreases-children
decreases-children l = length l.s - l.at
