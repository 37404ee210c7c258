-- `read_text_line::param::next_param` meets its contract.
use Rattle.read_text_line.specs.laws.Cursor.{passed_on}
use Rattle.read_text_line.specs.laws.Params.{param_there, param_missing}
use Rattle.read_text_line.proofs.param.next_param.Goals as goal

pub returns-then-n-eq-SEMICOLON : goal.returns-then-n-eq-SEMICOLON
returns-then-n-eq-SEMICOLON g c = param_there c.unit-n.ensures c.if-n-eq-SEMICOLON.true (rw c.in_ok-p.was at c.param_at.ensures)

pub returns-in_err-p : goal.returns-in_err-p
returns-in_err-p g c = rw (passed_on _ _ c.from_residual.ensures.1) (param_there c.unit-n.ensures c.if-n-eq-SEMICOLON.true (rw c.in_err-p.was at c.param_at.ensures))

pub returns : goal.returns
returns g c = param_missing c.unit-n.ensures c.if-n-eq-SEMICOLON.false
