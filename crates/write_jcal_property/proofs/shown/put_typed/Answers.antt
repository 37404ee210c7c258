-- `write_jcal_property::shown::put_typed` meets its contract.
use Rattle.sink.specs.laws.Sink.{writing}
use Rattle.write_jcal_property.proofs.shown.put_typed.Goals as goal

pub put_type_label-a-requires : goal.put_type_label-a-requires
put_type_label-a-requires g c = let cut = g.met.E.Cuttable.cut in search writing

pub put-b-requires : goal.put-b-requires
put-b-requires g c = let cut = g.met.E.Cuttable.cut in search writing

pub put_shown-requires : goal.put_shown-requires
put_shown-requires g c = let cut = g.met.E.Cuttable.cut in search writing

pub shape_of-out : goal.shape_of-out
shape_of-out g c = let cut = g.met.E.Cuttable.cut in search writing

pub returns : goal.returns
returns g c = let cut = g.met.E.Cuttable.cut in search writing
