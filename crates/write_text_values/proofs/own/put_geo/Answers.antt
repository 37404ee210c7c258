-- `write_text_values::own::put_geo` meets its contract.
use Rattle.xml.specs.NodesAt.{nodes_at}
use Rattle.write_text_values.specs.laws.Own.{put_geo}
use Rattle.sink.specs.laws.Sink.{◌▷◌, writing}
use Rattle.write_text_values.proofs.own.put_geo.Goals as goal

pub put_coordinate-a-requires : goal.put_coordinate-a-requires
put_coordinate-a-requires c = c.requires

pub put_all-b-requires : goal.put_all-b-requires
put_all-b-requires c = search writing

pub put_coordinate-requires : goal.put_coordinate-requires
put_coordinate-requires c = c.requires

pub shape_of-out : goal.shape_of-out
shape_of-out c = search writing

pub returns : goal.returns
returns c = put_geo (nodes_at c.args.s.now c.args.inside) (c.put_coordinate-a.ensures ▷ c.put_all-b.ensures ▷ c.put_coordinate.ensures)
