-- `read_text_line::param::named_param` meets its contract.
use Rattle.read_text_line.specs.laws.Params.{named_values, named_faulty, named_not}
use Rattle.read_text_line.proofs.param.named_param.Goals as goal

pub returns-in-Ok : goal.returns-in-Ok
returns-in-Ok g c = named_values c.name_end-end.ensures c.unit-n.ensures c.if-n-eq-EQUALS.true (rw c.in-Ok.is at c.values.ensures)

pub returns-in-Err : goal.returns-in-Err
returns-in-Err g c = named_faulty c.name_end-end.ensures c.unit-n.ensures c.if-n-eq-EQUALS.true (rw c.in-Err.is at c.values.ensures)

pub returns : goal.returns
returns g c = named_not c.name_end-end.ensures c.unit-n.ensures c.if-n-eq-EQUALS.false c.bad_param.ensures
