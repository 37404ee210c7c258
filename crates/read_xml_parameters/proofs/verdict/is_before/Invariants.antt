-- `read_xml_parameters::verdict::is_before` meets its contract.
use Prim.Native.Nat.{◌-◌}
use lib.ListN.{length}
use Rattle.read_xml_nodes.specs.laws.Walks.{Passing}
use Rattle.read_xml_parameters.specs.Seen.{is_before}
use Rattle.read_xml_parameters.specs.laws.Seen.{befores}
use borrow.Author.Rules.{rules}
use Rattle.read_xml_parameters.proofs.verdict.is_before.Given as goal

abbrev pub invariant-loop-a : goal.invariant-loop-a
invariant-loop-a l = Passing (is_before l.w l.at) l.s l.from l.c

abbrev pub decreases-loop-a : goal.decreases-loop-a
decreases-loop-a l = length l.s - l.c
