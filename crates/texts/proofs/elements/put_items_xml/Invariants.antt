-- `texts::put_items_xml` meets its contract.
use Prim.Native.Nat.{◌-◌, ◌*◌}
use lib.ListN.{length}
use Rattle.texts.specs.laws.Elements.{Listing}
use Rattle.texts.proofs.elements.put_items_xml.Given as goal

abbrev pub invariant-loop-n : goal.invariant-loop-n
invariant-loop-n g l = Listing l.initial.out l.at g.E.Encoding.encoding l.s l.from l.out l.o l.c

abbrev pub decreases-loop-n : goal.decreases-loop-n
decreases-loop-n g l = 4 * length l.s - l.c
