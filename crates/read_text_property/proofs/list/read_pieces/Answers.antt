-- `read_text_property::list::read_pieces` meets its contract.
use mathlib.Core.Path.{sym}
use Rattle.recur.specs.laws.PieceLaws.{left_start, pieces_less, cut_count}
use Rattle.values.specs.laws.ValueAt.{good_yes, good_no, value_there}
use Rattle.read_text_property.specs.laws.Listed.{each_bad, each_last, each_more}
use Rattle.read_text_property.specs.laws.ValuesAt.{values_yes, values_no}
use Rattle.read_text_property.proofs.list.read_pieces.Goals as goal

pub loop-v-init : goal.loop-v-init
loop-v-init g c = left_start _ _ _ _ _ c.requires

pub byte_end-e-requires : goal.byte_end-e-requires
byte_end-e-requires g c = c.loop-v.invariant.inside

pub slice_bounds-read_value-end : goal.slice_bounds-read_value-end
slice_bounds-read_value-end g c = cut_count c.byte_end-e.ensures

pub returns-in_default : goal.returns-in_default
returns-in_default g c = values_no c.args.t (each_bad _ c.loop-v.invariant c.byte_end-e.ensures (sym (good_no c.args.t (value_there _ _ _ _ _ c.read_value.ensures (λ h. c.loop-v.invariant.inside.cut)) c.in_default.is)))

pub returns-then-n-eq-END : goal.returns-then-n-eq-END
returns-then-n-eq-END g c = values_yes c.args.t (each_last _ c.loop-v.invariant c.byte_end-e.ensures c.unit-n.ensures (sym (good_yes c.args.t (value_there _ _ _ _ _ c.read_value.ensures (λ h. c.loop-v.invariant.inside.cut)) c.in-Some.is)) c.if-n-eq-END.true)

pub loop-v-smaller : goal.loop-v-smaller
loop-v-smaller g c = pieces_less c.byte_end-e.ensures c.unit-n.ensures c.if-n-eq-END.false

pub loop-v-preserved : goal.loop-v-preserved
loop-v-preserved g c = each_more _ c.loop-v.invariant c.byte_end-e.ensures c.unit-n.ensures (sym (good_yes c.args.t (value_there _ _ _ _ _ c.read_value.ensures (λ h. c.loop-v.invariant.inside.cut)) c.in-Some.is)) c.if-n-eq-END.false
