-- `write_text_jcal_values::put_geo` meets its contract. Assumes nothing.
use Rattle.write_text_jcal_values.specs.laws.Own.{geo_put}
use Rattle.sink.specs.laws.Sink.{writing}
use Rattle.write_text_jcal_values.proofs.own.put_geo.Goals as goal

pub skip-second-requires : goal.skip-second-requires
skip-second-requires c = search writing

pub put_coordinate-a-requires : goal.put_coordinate-a-requires
put_coordinate-a-requires c = search writing

pub put_all-b-requires : goal.put_all-b-requires
put_all-b-requires c = search writing

pub put_coordinate-requires : goal.put_coordinate-requires
put_coordinate-requires c = search writing

pub shape_of-out : goal.shape_of-out
shape_of-out c = search writing

pub returns : goal.returns
returns c = geo_put _ _ _ c.skip-second.ensures c.put_coordinate-a.ensures c.put_all-b.ensures c.put_coordinate.ensures
