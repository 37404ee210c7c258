-- `read_jcal_value::magnitude` meets its contract.
use native.Mathlib.Omega.{arith}
use Rattle.read_jcal_value.specs.laws.Number.{numbering, marks_order, magnitude_is}
use Rattle.read_jcal_value.proofs.number.magnitude.Goals as goal

pub mark_at-e-requires : goal.mark_at-e-requires
mark_at-e-requires c = search numbering

pub exponent_at-x-requires : goal.exponent_at-x-requires
exponent_at-x-requires c = search numbering

pub slice_bounds-mark_at-end : goal.slice_bounds-mark_at-end
slice_bounds-mark_at-end c = search numbering

pub mark_at-q-requires : goal.mark_at-q-requires
mark_at-q-requires c = search numbering

pub overflow_add-q : goal.overflow_add-q
overflow_add-q c = let k = marks_order c.mark_at-e.ensures c.mark_at-q.ensures in omega (arith, k)

pub beyond-behind-requires : goal.beyond-behind-requires
beyond-behind-requires c = search numbering

pub overflow_sub-q : goal.overflow_sub-q
overflow_sub-q c = let k = marks_order c.mark_at-e.ensures c.mark_at-q.ensures in omega (arith, k)

pub kept-keep-requires : goal.kept-keep-requires
kept-keep-requires c = let k = marks_order c.mark_at-e.ensures c.mark_at-q.ensures in omega (arith, k, c.beyond-behind.ensures)

pub both_worth-v-requires : goal.both_worth-v-requires
both_worth-v-requires c = marks_order c.mark_at-e.ensures c.mark_at-q.ensures

pub up-zeros-requires : goal.up-zeros-requires
up-zeros-requires c = search numbering

pub raised-requires : goal.raised-requires
raised-requires c = search numbering

pub returns : goal.returns
returns c = magnitude_is c.args.s.now c.args.a c.mark_at-e.ensures c.exponent_at-x.ensures c.mark_at-q.ensures c.beyond-behind.ensures c.kept-keep.ensures c.both_worth-v.ensures c.up-zeros.ensures c.raised.ensures
