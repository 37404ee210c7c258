-- `read_text_parameters::once::same_names` meets its contract.
use Rattle.read_text_parameters.specs.Cutting.{name_cut}
use Rattle.read_text_parameters.specs.laws.Cutting.{cut_at}
use Rattle.source.specs.Source.{rest}
use Rattle.octets.specs.Words.{same}
use Rattle.octets.specs.Class.{upper}
use lib.ListN.{take, length-take}
use native.Mathlib.Omega.{arith}
use Rattle.read_text_parameters.proofs.once.same_names.Goals as goal

pub slice_bounds-are_same-end : goal.slice_bounds-are_same-end
slice_bounds-are_same-end g c = simp length-take (omega arith)

pub slice_bounds-are_same-end-2 : goal.slice_bounds-are_same-end-2
slice_bounds-are_same-end-2 g c = simp length-take (omega arith)

pub returns : goal.returns
returns g c = cut_at (λ l. same (upper l) (name_cut g.E.Encoding.encoding c.args.s.now c.args.b c.args.f)) g.E.Encoding.encoding c.args.s.now c.args.a c.args.e c.smaller-x.ensures (cut_at (λ l. same (upper (rest g.E.Encoding.encoding (take c.smaller-x.result c.args.s.now) c.args.a)) (upper l)) g.E.Encoding.encoding c.args.s.now c.args.b c.args.f c.smaller-y.ensures c.are_same.ensures)
