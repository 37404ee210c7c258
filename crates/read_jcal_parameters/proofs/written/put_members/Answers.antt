-- `read_jcal_parameters::written::put_members` meets its contract.
use Rattle.sink.specs.laws.Sink.{writing}
use Rattle.read_jcal_parameters.specs.laws.Written.{members_next, members_over}
use Rattle.read_jcal_parameters.proofs.written.put_members.Goals as goal

pub loop-m-preserved : goal.loop-m-preserved
loop-m-preserved c = members_next c.args.edition c.loop-m.invariant c.in-Some.ensures c.put_parameter-p.ensures

pub returns : goal.returns
returns c = search (members_over, writing)
