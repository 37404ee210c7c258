-- `read_jcal_parameters::written::put_parameters` meets its contract.
use Rattle.sink.specs.laws.Sink.{writing}
use Rattle.read_jcal_parameters.specs.laws.Written.{parameters_put, parameters_unread}
use Rattle.read_jcal_parameters.proofs.written.put_parameters.Goals as goal

pub are_read-read-requires : goal.are_read-read-requires
are_read-read-requires c = search writing

pub put_members-requires : goal.put_members-requires
put_members-requires c = search writing

pub shape_of-out-then-read : goal.shape_of-out-then-read
shape_of-out-then-read c = search writing

pub returns-then-read : goal.returns-then-read
returns-then-read c = search (parameters_put, writing)

pub returns : goal.returns
returns c = search (parameters_unread, writing)
