-- `write_jcal_parameters::line::put_parameters` meets its contract.
use Rattle.write_jcal_parameters.specs.laws.Parts.{put_unread, put_shown}
use Rattle.sink.specs.laws.Sink.{writing}
use Rattle.write_jcal_parameters.proofs.line.put_parameters.Goals as goal

pub are_read-requires : goal.are_read-requires
are_read-requires g c = let cut = g.met.E.Cuttable.cut in search writing

pub put_object-requires : goal.put_object-requires
put_object-requires g c = let cut = g.met.E.Cuttable.cut in search writing

pub shape_of-out-then-are_read : goal.shape_of-out-then-are_read
shape_of-out-then-are_read g c = let cut = g.met.E.Cuttable.cut in search writing

pub returns-then-are_read : goal.returns-then-are_read
returns-then-are_read g c = let cut = g.met.E.Cuttable.cut in search (put_shown, writing)

pub put_all-requires : goal.put_all-requires
put_all-requires g c = let cut = g.met.E.Cuttable.cut in search writing

pub shape_of-out : goal.shape_of-out
shape_of-out g c = let cut = g.met.E.Cuttable.cut in search writing

pub returns : goal.returns
returns g c = let cut = g.met.E.Cuttable.cut in search (put_unread, writing)
