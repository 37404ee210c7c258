-- `write_text_values::own::put_status` meets its contract.
use Rattle.xml.specs.NodesAt.{nodes_at}
use Rattle.write_text_values.specs.laws.Own.{put_status}
use Rattle.sink.specs.laws.Sink.{◌▷◌, writing}
use Rattle.write_text_values.proofs.own.put_status.Goals as goal

pub put_child_text-a-requires : goal.put_child_text-a-requires
put_child_text-a-requires c = c.requires

pub put_all-b-requires : goal.put_all-b-requires
put_all-b-requires c = search writing

pub put_child_text-c-requires : goal.put_child_text-c-requires
put_child_text-c-requires c = c.requires

pub put_data-requires : goal.put_data-requires
put_data-requires c = c.requires

pub shape_of-out : goal.shape_of-out
shape_of-out c = search writing

pub returns : goal.returns
returns c = put_status (nodes_at c.args.s.now c.args.inside) (c.put_child_text-a.ensures ▷ c.put_all-b.ensures ▷ c.put_child_text-c.ensures ▷ c.put_data.ensures)
