-- `read_jcal_value::is_integer` meets its contract.
use lib.ListN.{length-take}
use native.Mathlib.Omega.{arith}
use Rattle.read_jcal_value.specs.laws.Typed.{integer_read}
use Rattle.read_jcal_value.proofs.leaves.is_integer.Goals as goal

pub slice_bounds-read_number-end : goal.slice_bounds-read_number-end
slice_bounds-read_number-end c = simp length-take (omega arith)

pub read_number-requires : goal.read_number-requires
read_number-requires c = simp length-take (omega arith)

pub returns : goal.returns
returns c = integer_read _ _ c.read_number.ensures c.is_some.ensures
