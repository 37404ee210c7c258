-- `read_xml::action_word` meets its contract.
use Prim.Native.Nat.{◌-◌}
use lib.ListN.{length}
use Rattle.read_xml.specs.laws.ActionWord.{Wording}
use Rattle.read_xml.proofs.action.action_word.Given as goal

abbrev pub invariant-nodes : goal.invariant-nodes
invariant-nodes l = Wording l.s l.inside l.at

abbrev pub decreases-nodes : goal.decreases-nodes
decreases-nodes l = length l.s - l.at
