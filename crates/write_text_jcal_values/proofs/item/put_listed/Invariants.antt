-- `write_text_jcal_values::put_listed` meets its contract. Assumes nothing.
use Rattle.write_text_jcal_values.specs.laws.Joining.{Joining, joining_start, joining_more, joining_end}
use Rattle.write_text_jcal_values.specs.laws.Elements.{head_strung, there_less}
use Rattle.write_text_jcal_values.specs.Rules.{item_of}
use Rattle.recur.specs.Item.{write_item}
use Rattle.calendar.specs.Calendar.{ical}
use lib.ListN.{length}
use Prim.Native.Nat.{◌-◌}
use Rattle.sink.specs.laws.Sink.{writing}
use Rattle.write_text_jcal_values.proofs.item.put_listed.Given as goal

abbrev pub invariant-loop-at : goal.invariant-loop-at
invariant-loop-at l = Joining (item_of l.p) (write_item ical) 44 l.s l.from l.initial.out l.o l.out l.q l.at l.started

abbrev pub decreases-loop-at : goal.decreases-loop-at
decreases-loop-at l = length l.s - l.at
