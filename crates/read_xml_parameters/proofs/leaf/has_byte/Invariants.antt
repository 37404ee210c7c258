-- `read_xml_parameters::leaf::has_byte` meets its contract.
use Prim.Native.Nat.{◌*◌, ◌-◌}
use lib.ListN.{length}
use Rattle.read_xml_parameters.specs.laws.Leaves.{Holding, holding}
use Rattle.read_xml_parameters.proofs.leaf.has_byte.Given as goal

abbrev pub invariant-loop-n : goal.invariant-loop-n
invariant-loop-n l = Holding l.b 1 l.s l.at l.c

abbrev pub decreases-loop-n : goal.decreases-loop-n
decreases-loop-n l = 4 * length l.s - l.c
