-- `read_text_parameters::is_named` meets its contract.
use Rattle.read_text_parameters.specs.laws.Cutting.{cut_at}
use Rattle.octets.specs.Words.{same}
use Rattle.octets.specs.Class.{upper}
use lib.ListN.{length-take}
use native.Mathlib.Omega.{arith}
use Rattle.read_text_parameters.proofs.cut.is_named.Goals as goal

pub slice_bounds-is_word_any_case-end : goal.slice_bounds-is_word_any_case-end
slice_bounds-is_word_any_case-end g c = simp length-take (omega arith)

pub returns : goal.returns
returns g c = cut_at (λ l. same (upper l) c.args.w.now) g.E.Encoding.encoding c.args.s.now c.args.from c.args.to c.smaller-e.ensures c.is_word_any_case.ensures
