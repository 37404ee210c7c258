-- `numbers::float::put_trimmed` meets its contract.
use native.Mathlib.Omega.{arith}
use Rattle.sink.specs.laws.Sink.{todo_step, todo_done, writing}
use Rattle.numbers.specs.laws.PutFloat.{todo_same, trim_all}
use Rattle.numbers.specs.laws.Spans.{trim_end, trim_zero, trim_more}
use Rattle.numbers.specs.laws.Until.{turn_byte, turn_end}
use Rattle.sink.specs.laws.Sink.{writing}
use Rattle.numbers.proofs.float.put_trimmed.Goals as goal

pub loop-t-init : goal.loop-t-init
loop-t-init g c = (search (trim_all, writing), omega arith, search writing)

pub returns-then-t-eq-END : goal.returns-then-t-eq-END
returns-then-t-eq-END g c = todo_done c.loop-t.invariant.0 (trim_end _ (turn_end c.unit_to-t.ensures c.if-t-eq-END.true))

pub loop-t-preserved-then-t-eq-ZERO : goal.loop-t-preserved-then-t-eq-ZERO
loop-t-preserved-then-t-eq-ZERO g c = (todo_same c.loop-t.invariant.0 (trim_zero _ (turn_byte c.unit_to-t.ensures c.if-t-eq-END.false) c.if-t-eq-ZERO.true), omega arith, search writing)

pub loop-t-preserved : goal.loop-t-preserved
loop-t-preserved g c = (todo_step c.loop-t.invariant.0 c.put_waiting-q.ensures (trim_more _ (turn_byte c.unit_to-t.ensures c.if-t-eq-END.false) c.if-t-eq-ZERO.false), omega arith, search writing)
