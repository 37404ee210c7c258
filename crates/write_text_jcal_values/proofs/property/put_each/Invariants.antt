-- `write_text_jcal_values::put_each` meets its contract. Assumes nothing.
use Rattle.write_text_jcal_values.specs.laws.Joining.{Joining, joining_start, joining_more, joining_end}
use Rattle.write_text_jcal_values.specs.laws.Elements.{there_spans, there_less}
use Rattle.write_text_jcal_values.specs.Property.{one_at}
use Rattle.values.specs.WriteValue.{write_value}
use lib.ListN.{length}
use Prim.Native.Nat.{◌-◌}
use Rattle.sink.specs.laws.Sink.{writing}
use Rattle.write_text_jcal_values.proofs.property.put_each.Given as goal

abbrev pub invariant-loop-at : goal.invariant-loop-at
invariant-loop-at l = Joining (one_at l.p l.t) write_value 44 l.s l.from l.initial.out l.o l.out l.q l.at l.started

abbrev pub decreases-loop-at : goal.decreases-loop-at
decreases-loop-at l = length l.s - l.at
