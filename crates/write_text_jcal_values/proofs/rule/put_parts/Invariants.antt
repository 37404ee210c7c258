-- `write_text_jcal_values::put_parts` meets its contract. Assumes nothing.
use Rattle.write_text_jcal_values.specs.laws.Rules.{Parting, parts_start, parts_more, parts_none, parts_end}
use Prim.Native.Nat.{◌-◌}
use Rattle.sink.specs.laws.Sink.{writing}
use Rattle.write_text_jcal_values.proofs.rule.put_parts.Given as goal

abbrev pub invariant-loop-p : goal.invariant-loop-p
invariant-loop-p l = Parting l.s l.inside l.initial.out l.o l.out l.q l.started l.p

abbrev pub decreases-loop-p : goal.decreases-loop-p
decreases-loop-p l = 14 - l.p
