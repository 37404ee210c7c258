-- `numbers::scan::only_zeros` meets its contract.
use Rattle.std.proofs.Common.{◌∙◌}
use Rattle.numbers.specs.laws.Spans.{zeros_end, zeros_more, zeros_stop}
use Rattle.numbers.specs.laws.Until.{turn_byte, turn_end}
use Rattle.numbers.proofs.scan.only_zeros.Goals as goal

pub returns-then-t-eq-END : goal.returns-then-t-eq-END
returns-then-t-eq-END g c = c.loop-t.invariant ∙ zeros_end (turn_end c.unit_to-t.ensures c.if-t-eq-END.true)

pub returns-then-t-ne-ZERO : goal.returns-then-t-ne-ZERO
returns-then-t-ne-ZERO g c = c.loop-t.invariant ∙ zeros_stop (turn_byte c.unit_to-t.ensures c.if-t-eq-END.false) c.if-t-ne-ZERO.true

pub loop-t-preserved : goal.loop-t-preserved
loop-t-preserved g c = c.loop-t.invariant ∙ zeros_more (turn_byte c.unit_to-t.ensures c.if-t-eq-END.false) c.if-t-ne-ZERO.false
