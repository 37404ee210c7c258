-- `write_text_jcal_values::put_texts` meets its contract. Assumes nothing.
use Rattle.write_text_jcal_values.specs.laws.Joining.{Joining, joining_start, joining_more, joining_end}
use Rattle.write_text_jcal_values.specs.laws.Elements.{there_spans, there_less}
use Rattle.json_text.specs.Kinds.{as_string}
use Rattle.texts.specs.Text.{write_text}
use lib.ListN.{length}
use Prim.Native.Nat.{◌-◌}
use Rattle.sink.specs.laws.Sink.{writing}
use Rattle.write_text_jcal_values.proofs.own.put_texts.Given as goal

abbrev pub invariant-loop-at : goal.invariant-loop-at
invariant-loop-at l = Joining as_string write_text 59 l.s l.from l.initial.out l.o l.out l.q l.at l.started

abbrev pub decreases-loop-at : goal.decreases-loop-at
decreases-loop-at l = length l.s - l.at
