-- `read_xml_nodes::readers::capital_from` meets its contract.
use Prim.Native.Nat.{◌*◌, ◌-◌}
use lib.ListN.{length}
use Rattle.read_xml_nodes.specs.laws.Walks.{Capitals, capitals}
use Rattle.read_xml_nodes.proofs.readers.capital_from.Given as goal

abbrev pub invariant-loop-n : goal.invariant-loop-n
invariant-loop-n l = Capitals l.s l.at l.c

abbrev pub decreases-loop-n : goal.decreases-loop-n
decreases-loop-n l = 4 * length l.s - l.c
