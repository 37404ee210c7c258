-- `read_text_parameters::number_of` meets its contract.
use Rattle.read_text_parameters.specs.laws.Cutting.{cut_at}
use Rattle.schema.specs.Parameters.{parameter_names}
use Rattle.names.specs.Table.{place_of}
use Rattle.octets.specs.Class.{upper}
use lib.ListN.{length-take}
use native.Mathlib.Omega.{arith}
use Rattle.read_text_parameters.proofs.cut.number_of.Goals as goal

pub slice_bounds-parameter_number-end : goal.slice_bounds-parameter_number-end
slice_bounds-parameter_number-end g c = simp length-take (omega arith)

pub returns : goal.returns
returns g c = cut_at (λ l. place_of (upper l) parameter_names) g.E.Encoding.encoding c.args.s.now c.args.from c.args.to c.smaller-e.ensures c.parameter_number.ensures
