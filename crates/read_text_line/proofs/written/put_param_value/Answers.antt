-- `read_text_line::written::put_param_value` meets its contract.
use Rattle.sink.specs.laws.Sink.{put_length}
use Rattle.read_text_line.specs.laws.Written.{value_quoted_put, value_bare_put}
use Rattle.read_text_line.proofs.written.put_param_value.Goals as goal

pub shape_of-out-then-quoted : goal.shape_of-out-then-quoted
shape_of-out-then-quoted g c = put_length (value_quoted_put c.if-quoted.true c.put-a.ensures c.put_encoded-b.ensures c.put.ensures)

pub returns-then-quoted : goal.returns-then-quoted
returns-then-quoted g c = value_quoted_put c.if-quoted.true c.put-a.ensures c.put_encoded-b.ensures c.put.ensures

pub shape_of-out : goal.shape_of-out
shape_of-out g c = put_length (value_bare_put c.if-quoted.false c.put_encoded.ensures)

pub returns : goal.returns
returns g c = value_bare_put c.if-quoted.false c.put_encoded.ensures
