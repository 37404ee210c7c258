-- `write_text_values::rule::put_rule` meets its contract.
use Prim.Native.Nat.{◌-◌}
use Rattle.write_text_values.specs.laws.PutRule.{Parting, parts_start, parts_more, parts_none, parts_end}
use Rattle.sink.specs.laws.Sink.{writing}
use Rattle.write_text_values.proofs.rule.put_rule.Given as goal

abbrev pub invariant-loop-p : goal.invariant-loop-p
invariant-loop-p l = Parting l.s l.inside l.initial.out l.o l.out l.q l.started l.p

abbrev pub decreases-loop-p : goal.decreases-loop-p
decreases-loop-p l = 14 - l.p
