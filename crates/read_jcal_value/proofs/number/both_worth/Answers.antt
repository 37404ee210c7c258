-- `read_jcal_value::both_worth` meets its contract.
use native.Mathlib.Omega.{arith}
use lib.ListN.{length-take}
use Rattle.read_jcal_value.specs.laws.Number.{numbering}
use Rattle.read_jcal_value.proofs.number.both_worth.Goals as goal

pub slice_bounds-digits_worth-end : goal.slice_bounds-digits_worth-end
slice_bounds-digits_worth-end c = simp length-take (omega arith)

pub digits_worth-v-requires : goal.digits_worth-v-requires
digits_worth-v-requires c = search numbering

pub overflow_sub-q : goal.overflow_sub-q
overflow_sub-q c = search numbering

pub beyond-left-requires : goal.beyond-left-requires
beyond-left-requires c = search numbering

pub slice_bounds-digits_worth-end-2 : goal.slice_bounds-digits_worth-end-2
slice_bounds-digits_worth-end-2 c = simp length-take (omega arith)

pub overflow_add-q : goal.overflow_add-q
overflow_add-q c = search numbering

pub digits_worth-requires : goal.digits_worth-requires
digits_worth-requires c = search numbering

pub returns : goal.returns
returns c = search numbering
