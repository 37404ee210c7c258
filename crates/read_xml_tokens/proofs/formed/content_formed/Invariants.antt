-- `read_xml_tokens::formed::content_formed` meets its contract.
use Prim.Native.Nat.{◌-◌}
use lib.ListN.{length}
use Rattle.read_xml_tokens.specs.Formed.{verdict_at, Ongoing}
use Rattle.read_xml_tokens.proofs.formed.content_formed.Given as goal

abbrev pub invariant-loop-at : goal.invariant-loop-at
invariant-loop-at l = Ongoing (verdict_at l.s l.initial.a l.initial.e l.initial.depth l.initial.at) l.s l.a l.e l.depth l.at

abbrev pub decreases-loop-at : goal.decreases-loop-at
decreases-loop-at l = length l.s - l.at
