-- `read_text_line::ends::line_end_plain` meets its contract.
use Prim.Native.Nat.{◌-◌}
use lib.ListN.{length}
use Rattle.read_text_line.specs.laws.LineEnd.{Seeking}
use Rattle.read_text_line.proofs.ends.line_end_plain.Given as goal

abbrev pub invariant-loop-c : goal.invariant-loop-c
invariant-loop-c l = Seeking 0 l.s l.from l.c

abbrev pub decreases-loop-c : goal.decreases-loop-c
decreases-loop-c l = length l.s - l.c
