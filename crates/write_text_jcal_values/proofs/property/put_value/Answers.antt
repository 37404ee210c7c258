-- `write_text_jcal_values::put_value` meets its contract. Assumes nothing.
use Rattle.write_text_jcal_values.specs.laws.Property.{value_geo, value_status, value_typed}
use Rattle.sink.specs.laws.Sink.{writing}
use Rattle.write_text_jcal_values.proofs.property.put_value.Goals as goal

pub put_geo-requires : goal.put_geo-requires
put_geo-requires c = search writing

pub shape_of-out-then-p-eq-GEO : goal.shape_of-out-then-p-eq-GEO
shape_of-out-then-p-eq-GEO c = search writing

pub returns-then-p-eq-GEO : goal.returns-then-p-eq-GEO
returns-then-p-eq-GEO c = value_geo c.args.s.now c.args.h c.args.p c.args.t c.if-p-eq-GEO.true c.put_geo.ensures

pub put_status-requires : goal.put_status-requires
put_status-requires c = search writing

pub shape_of-out-then-p-eq-REQUEST_STATUS : goal.shape_of-out-then-p-eq-REQUEST_STATUS
shape_of-out-then-p-eq-REQUEST_STATUS c = search writing

pub returns-then-p-eq-REQUEST_STATUS : goal.returns-then-p-eq-REQUEST_STATUS
returns-then-p-eq-REQUEST_STATUS c = value_status c.args.s.now c.args.h c.args.p c.args.t c.if-p-eq-GEO.false c.if-p-eq-REQUEST_STATUS.true c.put_status.ensures

pub put_typed-requires : goal.put_typed-requires
put_typed-requires c = search writing

pub shape_of-out : goal.shape_of-out
shape_of-out c = search writing

pub returns : goal.returns
returns c = value_typed c.args.s.now c.args.h c.args.p c.args.t c.if-p-eq-GEO.false c.if-p-eq-REQUEST_STATUS.false c.put_typed.ensures
