-- `write_xml_parameters::parameter::put_cut_own` meets its contract.
use native.Mathlib.Omega.{arith}
use lib.ListN.{length-take}
use Rattle.sink.specs.laws.Sink.{writing}
use Rattle.write_xml_parameters.specs.laws.Parts.{least_own}
use Rattle.write_xml_parameters.proofs.parameter.put_cut_own.Goals as goal

pub smaller-e-requires : goal.smaller-e-requires
smaller-e-requires g c = let cut = g.met.E.Cuttable.cut in search writing

pub slice_bounds-put_own-end : goal.slice_bounds-put_own-end
slice_bounds-put_own-end g c = simp length-take (omega arith)

pub put_own-requires : goal.put_own-requires
put_own-requires g c = let cut = g.met.E.Cuttable.cut in search writing

pub shape_of-out : goal.shape_of-out
shape_of-out g c = let cut = g.met.E.Cuttable.cut in search writing

pub returns : goal.returns
returns g c = let cut = g.met.E.Cuttable.cut in search (least_own, writing)
