-- `read_xml_parameters::verdict::parameters_verdict` meets its contract.
use Rattle.read_xml_nodes.specs.laws.NodeFound.{element_onward, literal_onward}
use mathlib.Core.Path.{◌≡◌}
use mathlib.Core.Bool.{true}
use native.Mathlib.Omega.{arith}
use Prim.Native.Nat.{◌≤◌}
use Rattle.octets.specs.Lists.{distinct}
use Rattle.xml.specs.NodesAt.{nodes_at}
use Rattle.read_xml_parameters.specs.Fresh.{first_names}
use Rattle.read_xml_parameters.specs.laws.Fresh.{none_first}
use Rattle.read_xml_parameters.specs.laws.Told.{told_start, told_space, told_next, told_fresh}
use Prim.Native.Nat.{◌-◌}
use lib.ListN.{length}
use Rattle.read_xml_parameters.specs.laws.Told.{Told, telling}
use borrow.Author.Rules.{rules}
use Rattle.read_xml_parameters.proofs.verdict.parameters_verdict.Given as goal

abbrev pub invariant-nodes : goal.invariant-nodes
invariant-nodes l = Told l.edition l.row l.t l.s l.inside l.c l.i × (l.i ≤ l.c) × (distinct (first_names (nodes_at l.s l.inside) l.fresh) ≡ true)

abbrev pub decreases-nodes : goal.decreases-nodes
decreases-nodes l = length l.s - l.c
