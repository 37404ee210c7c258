-- `read_xml_tokens::pieces::lowered_at` meets its contract.
use Prim.Native.Nat.{◌-◌}
use lib.ListN.{length}
use Rattle.read_xml_tokens.specs.laws.PieceLaws.{lowering_stop, Lowering, lowering}
use Rattle.read_xml_tokens.proofs.pieces.lowered_at.Given as goal

abbrev pub invariant-loop-i : goal.invariant-loop-i
invariant-loop-i l = Lowering l.s l.at l.w l.c l.i

abbrev pub decreases-loop-i : goal.decreases-loop-i
decreases-loop-i l = length l.w - l.i
