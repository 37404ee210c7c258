-- `read_text_line::param::next_params` meets its contract.
use Prim.Native.Nat.{◌*◌, ◌-◌}
use lib.ListN.{length}
use Rattle.read_text_line.specs.ContentLine.{next_param}
use Rattle.read_text_line.specs.laws.Repeating.{Walk}
use Rattle.read_text_line.proofs.param.next_params.Given as goal

abbrev pub invariant-loop-p : goal.invariant-loop-p
invariant-loop-p g l = Walk next_param g.E.Encoding.encoding l.s l.at l.c

abbrev pub decreases-loop-p : goal.decreases-loop-p
decreases-loop-p g l = 4 * length l.s - l.c
