-- `read_text_line::written::put_param_name` meets its contract.
use Rattle.sink.specs.laws.Sink.{put_length}
use Rattle.read_text_line.specs.laws.Written.{opening_put}
use Rattle.read_text_line.proofs.written.put_param_name.Goals as goal

pub shape_of-out : goal.shape_of-out
shape_of-out g c = put_length (opening_put c.put-a.ensures c.put_upper-b.ensures c.put.ensures)

pub returns : goal.returns
returns g c = opening_put c.put-a.ensures c.put_upper-b.ensures c.put.ensures
