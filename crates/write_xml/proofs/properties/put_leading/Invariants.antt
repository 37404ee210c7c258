-- `write_xml::properties::put_leading` meets its contract.
use Prim.Native.Nat.{◌-◌}
use lib.ListN.{length}
use lib.Seq.{length-take-le}
use borrow.Author.Rules.{rules}
use Rattle.text_entries.specs.laws.Entries.{property_inside}
use Rattle.write_xml.proofs.Leading.{Leading, leadings}
use Rattle.write_xml.proofs.properties.put_leading.Given as goal

abbrev pub invariant-loop-at : goal.invariant-loop-at
invariant-loop-at g l = Leading l.edition l.k g.E.Encoding.encoding l.s l.from l.initial.out l.o l.out l.p l.at

abbrev pub decreases-loop-at : goal.decreases-loop-at
decreases-loop-at g l = length l.s - l.at
