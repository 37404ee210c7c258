-- `write_jcal_parameters::parameter::put_member` meets its contract.
use native.Mathlib.Omega.{arith}
use lib.ListN.{length-take}
use Rattle.sink.specs.laws.Sink.{writing}
use Rattle.write_jcal_parameters.specs.laws.Parts.{least_member}
use Rattle.write_jcal_parameters.proofs.parameter.put_member.Goals as goal

pub smaller-e-requires : goal.smaller-e-requires
smaller-e-requires g c = let cut = g.met.E.Cuttable.cut in search writing

pub put_separator-a-requires : goal.put_separator-a-requires
put_separator-a-requires g c = let cut = g.met.E.Cuttable.cut in search writing

pub slice_bounds-put_parameter-end : goal.slice_bounds-put_parameter-end
slice_bounds-put_parameter-end g c = simp length-take (omega arith)

pub put_parameter-requires : goal.put_parameter-requires
put_parameter-requires g c = let cut = g.met.E.Cuttable.cut in search writing

pub shape_of-out : goal.shape_of-out
shape_of-out g c = let cut = g.met.E.Cuttable.cut in search writing

pub returns : goal.returns
returns g c = let cut = g.met.E.Cuttable.cut in search (least_member, writing)
