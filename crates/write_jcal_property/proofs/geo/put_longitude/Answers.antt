-- `write_jcal_property::geo::put_longitude` meets its contract.
use Rattle.sink.specs.laws.Sink.{writing}
use Rattle.write_jcal_property.proofs.geo.put_longitude.Goals as goal

pub put-a-requires : goal.put-a-requires
put-a-requires g c = search writing

pub put_float-b-requires : goal.put_float-b-requires
put_float-b-requires g c = search writing

pub put-requires : goal.put-requires
put-requires g c = search writing

pub shape_of-out : goal.shape_of-out
shape_of-out g c = search writing

pub returns : goal.returns
returns g c = search writing
