-- `write_jcal_property::geo::put_geo` meets its contract.
use Rattle.write_jcal_property.specs.laws.Geo.{put_geo, put_no_geo}
use Rattle.sink.specs.laws.Sink.{writing}
use Rattle.write_jcal_property.proofs.geo.put_geo.Goals as goal

pub read_geo-requires : goal.read_geo-requires
read_geo-requires g c = search writing

pub returns-in_default : goal.returns-in_default
returns-in_default g c = search (put_no_geo, writing)

pub put_coordinates-requires : goal.put_coordinates-requires
put_coordinates-requires g c = search writing

pub returns : goal.returns
returns g c = search (put_geo, writing)
