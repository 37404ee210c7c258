-- `read_text_line::line::line_at` meets its contract.
use Rattle.read_text_line.specs.laws.Line.{line_unnamed, line_faulty, line_there, line_valueless}
use Rattle.read_text_line.proofs.line.line_at.Goals as goal

pub returns-then-no_name : goal.returns-then-no_name
returns-then-no_name g c = line_unnamed c.no_name.ensures c.if-no_name.true

pub returns-in_default : goal.returns-in_default
returns-in_default g c = line_faulty c.no_name.ensures c.if-no_name.false c.name_end-parameters.ensures c.next_params.ensures c.in_default.is

pub returns-in_err-value : goal.returns-in_err-value
returns-in_err-value g c = rw c.from_residual.ensures (line_valueless c.no_name.ensures c.if-no_name.false c.name_end-parameters.ensures c.next_params.ensures c.in-Ok.is c.value_at.ensures c.in_err-value.was)

pub returns : goal.returns
returns g c = line_there c.no_name.ensures c.if-no_name.false c.name_end-parameters.ensures c.next_params.ensures c.in-Ok.is c.value_at.ensures c.in_ok-value.was
