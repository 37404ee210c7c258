-- `read_text_line::value::next_value` meets its contract.
use Rattle.read_text_line.specs.laws.Cursor.{passed_on}
use Rattle.read_text_line.specs.laws.Values.{next_there, next_missing}
use Rattle.read_text_line.proofs.value.next_value.Goals as goal

pub returns-then-n-eq-COMMA : goal.returns-then-n-eq-COMMA
returns-then-n-eq-COMMA g c = next_there c.unit-n.ensures c.if-n-eq-COMMA.true (rw c.in_ok-v.was at c.param_value.ensures)

pub returns-in_err-v : goal.returns-in_err-v
returns-in_err-v g c = rw (passed_on _ _ c.from_residual.ensures.1) (next_there c.unit-n.ensures c.if-n-eq-COMMA.true (rw c.in_err-v.was at c.param_value.ensures))

pub returns : goal.returns
returns g c = next_missing c.unit-n.ensures c.if-n-eq-COMMA.false
