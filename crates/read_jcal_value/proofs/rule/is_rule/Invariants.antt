-- `read_jcal_value::is_rule` meets its contract.
use Prim.Native.Nat.{◌-◌}
use lib.ListN.{length}
use Rattle.read_jcal_value.specs.laws.Members.{Ruling}
use Rattle.read_jcal_value.proofs.rule.is_rule.Given as goal

abbrev pub invariant-loop-m : goal.invariant-loop-m
invariant-loop-m l = Ruling l.s l.from l.seen l.c

abbrev pub decreases-loop-m : goal.decreases-loop-m
decreases-loop-m l = length l.s - l.c
