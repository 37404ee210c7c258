-- `write_text_jcal_values::find_part` meets its contract. Assumes nothing.
use Rattle.write_text_jcal_values.specs.laws.Rules.{Finding, finding_start, finding_none, finding_here, finding_on, member_place, member_less}
use lib.ListN.{length}
use Prim.Native.Nat.{◌-◌}
use Rattle.sink.specs.laws.Sink.{writing}
use Rattle.write_text_jcal_values.proofs.rule.find_part.Given as goal

abbrev pub invariant-loop-m : goal.invariant-loop-m
invariant-loop-m l = Finding l.p l.s l.from l.c

abbrev pub decreases-loop-m : goal.decreases-loop-m
decreases-loop-m l = length l.s - l.c
