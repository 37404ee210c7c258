-- `write_text_values::property::put_values` meets its contract.
use Rattle.xml.specs.NodesAt.{nodes_at}
use Rattle.write_text_values.specs.laws.ValuesAt.{put_geo, put_status, put_typed}
use Rattle.sink.specs.laws.Sink.{writing}
use Rattle.write_text_values.proofs.property.put_values.Goals as goal

pub put_geo-requires : goal.put_geo-requires
put_geo-requires c = c.requires

pub shape_of-out-then-p-eq-GEO : goal.shape_of-out-then-p-eq-GEO
shape_of-out-then-p-eq-GEO c = search writing

pub returns-then-p-eq-GEO : goal.returns-then-p-eq-GEO
returns-then-p-eq-GEO c = put_geo c.args.p (nodes_at c.args.s.now c.args.inside) c.if-p-eq-GEO.true c.put_geo.ensures

pub put_status-requires : goal.put_status-requires
put_status-requires c = c.requires

pub shape_of-out-then-p-eq-REQUEST_STATUS : goal.shape_of-out-then-p-eq-REQUEST_STATUS
shape_of-out-then-p-eq-REQUEST_STATUS c = search writing

pub returns-then-p-eq-REQUEST_STATUS : goal.returns-then-p-eq-REQUEST_STATUS
returns-then-p-eq-REQUEST_STATUS c = put_status c.args.p (nodes_at c.args.s.now c.args.inside) c.if-p-eq-GEO.false c.if-p-eq-REQUEST_STATUS.true c.put_status.ensures

pub put_typed-requires : goal.put_typed-requires
put_typed-requires c = c.requires

pub shape_of-out : goal.shape_of-out
shape_of-out c = search writing

pub returns : goal.returns
returns c = put_typed c.args.p (nodes_at c.args.s.now c.args.inside) c.if-p-eq-GEO.false c.if-p-eq-REQUEST_STATUS.false c.put_typed.ensures
