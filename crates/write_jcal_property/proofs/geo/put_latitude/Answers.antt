-- `write_jcal_property::geo::put_latitude` meets its contract.
use Rattle.sink.specs.laws.Sink.{writing}
use Rattle.write_jcal_property.proofs.geo.put_latitude.Goals as goal

pub put-a-requires : goal.put-a-requires
put-a-requires g c = search writing

pub put_float_to-requires : goal.put_float_to-requires
put_float_to-requires g c = search writing

pub shape_of-out : goal.shape_of-out
shape_of-out g c = search writing

pub returns : goal.returns
returns g c = search writing
