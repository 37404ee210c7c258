-- `write_jcal_property::geo::put_coordinates` meets its contract.
use Rattle.sink.specs.laws.Sink.{writing}
use Rattle.write_jcal_property.proofs.geo.put_coordinates.Goals as goal

pub put_latitude-a-requires : goal.put_latitude-a-requires
put_latitude-a-requires g c = search writing

pub put_longitude-requires : goal.put_longitude-requires
put_longitude-requires g c = search writing

pub shape_of-out : goal.shape_of-out
shape_of-out g c = search writing

pub returns : goal.returns
returns g c = search writing
