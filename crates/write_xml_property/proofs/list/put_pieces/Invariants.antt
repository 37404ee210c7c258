-- `write_xml_property::put_pieces` meets its contract.
use Prim.Native.Nat.{◌-◌}
use lib.ListN.{length}
use Rattle.write_xml_property.specs.laws.Pieces.{Piecing, piecing}
use Rattle.write_xml_property.proofs.list.put_pieces.Given as goal

abbrev pub invariant-loop-n : goal.invariant-loop-n
invariant-loop-n g l = Piecing l.t l.initial.out l.at g.E.Encoding.encoding l.s l.from l.out l.o l.c

abbrev pub decreases-loop-n : goal.decreases-loop-n
decreases-loop-n g l = length l.s - l.c
