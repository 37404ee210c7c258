-- `write_text_values::period::put_period` meets its contract.
use Rattle.xml.specs.NodesAt.{nodes_at}
use Rattle.octets.specs.Ascii.{ascii}
use Rattle.xcal.specs.ValueNodes.{child_named}
use Rattle.write_text_values.specs.laws.Periods.{put_period}
use Rattle.sink.specs.laws.Sink.{◌▷◌, writing}
use Rattle.write_text_values.proofs.period.put_period.Goals as goal

pub put_moment-a-requires : goal.put_moment-a-requires
put_moment-a-requires c = c.requires

pub put_all-b-requires : goal.put_all-b-requires
put_all-b-requires c = search writing

pub put_end-requires : goal.put_end-requires
put_end-requires c = c.requires

pub shape_of-out : goal.shape_of-out
shape_of-out c = search writing

pub returns : goal.returns
returns c = put_period (child_named (ascii "duration") (nodes_at c.args.s.now c.args.inside)) (nodes_at c.args.s.now c.args.inside) (c.put_moment-a.ensures ▷ c.put_all-b.ensures ▷ c.put_end.ensures)
