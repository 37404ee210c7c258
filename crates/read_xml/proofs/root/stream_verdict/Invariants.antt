-- `read_xml::stream_verdict` meets its contract.
use Prim.Native.Nat.{◌-◌}
use lib.ListN.{length}
use Rattle.read_xml.specs.laws.Roots.{Streaming}
use Rattle.read_xml.proofs.root.stream_verdict.Given as goal

abbrev pub invariant-nodes : goal.invariant-nodes
invariant-nodes l = Streaming l.edition l.s l.inside l.e l.at l.any

abbrev pub decreases-nodes : goal.decreases-nodes
decreases-nodes l = length l.s - l.at
