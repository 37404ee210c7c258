-- `read_xml_value::parts_verdict` meets its contract.
use Prim.Native.Nat.{◌-◌}
use lib.ListN.{length}
use Rattle.read_xml_value.specs.laws.Turning.{Walking}
use Rattle.read_xml_value.proofs.turns.parts_verdict.Given as goal

abbrev pub invariant-children : goal.invariant-children
invariant-children l = Walking l.rule l.s l.inside l.e l.t

abbrev pub decreases-children : goal.decreases-children
decreases-children l = length l.s - l.t.at
