-- `read_text_line::line::value_at` meets its contract.
use Rattle.read_text_line.specs.laws.Line.{tail_there, tail_broken, tail_missing}
use Rattle.read_text_line.proofs.line.value_at.Goals as goal

pub returns-then-z-eq-END : goal.returns-then-z-eq-END
returns-then-z-eq-END g c = tail_there c.unit-n.ensures c.if-n-eq-COLON.true c.run_end-to.ensures c.unit-z.ensures c.if-z-eq-END.true

pub returns-else-z-eq-END : goal.returns-else-z-eq-END
returns-else-z-eq-END g c = tail_broken c.unit-n.ensures c.if-n-eq-COLON.true c.run_end-to.ensures c.unit-z.ensures c.if-z-eq-END.false

pub returns-else-n-eq-COLON : goal.returns-else-n-eq-COLON
returns-else-n-eq-COLON g c = tail_missing c.unit-n.ensures c.if-n-eq-COLON.false
