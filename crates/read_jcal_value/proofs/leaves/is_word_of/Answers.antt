-- `read_jcal_value::is_word_of` meets its contract.
use lib.ListN.{length-take}
use native.Mathlib.Omega.{arith}
use Rattle.read_jcal_value.specs.laws.Typed.{leaves}
use Rattle.read_jcal_value.proofs.leaves.is_word_of.Goals as goal

pub slice_bounds-read_value-end : goal.slice_bounds-read_value-end
slice_bounds-read_value-end c = simp length-take (omega arith)

pub returns : goal.returns
returns c = search leaves
