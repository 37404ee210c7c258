-- `numbers::scan::zeros_end` meets its contract.
use Rattle.std.proofs.Common.{arith, ◌∙◌}
use Rattle.numbers.specs.laws.Spans.{leading_more, leading_stop}
use Rattle.numbers.specs.laws.Until.{turn_byte}
use Rattle.numbers.proofs.scan.zeros_end.Goals as goal

pub returns-then-t-ne-ZERO : goal.returns-then-t-ne-ZERO
returns-then-t-ne-ZERO g c = c.loop-t.invariant ∙ leading_stop _ _ c.unit_to-t.ensures.is c.if-t-ne-ZERO.true

pub loop-t-preserved : goal.loop-t-preserved
loop-t-preserved g c = c.loop-t.invariant ∙ leading_more (turn_byte c.unit_to-t.ensures (λ e. omega arith)) c.if-t-ne-ZERO.false
