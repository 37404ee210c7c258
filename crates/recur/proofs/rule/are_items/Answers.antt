-- `recur::are_items` meets its contract.
use Rattle.recur.specs.laws.PieceLaws.{left_start, items_bad, items_last, items_more, pieces_less, cut_count}
use mathlib.Core.Path.{sym, ◌∙◌}
use Rattle.recur.proofs.rule.are_items.Goals as goal

pub loop-p-init : goal.loop-p-init
loop-p-init g c = left_start _ _ _ _ _ c.requires

pub byte_end-e-requires : goal.byte_end-e-requires
byte_end-e-requires g c = c.loop-p.invariant.inside

pub slice_bounds-is_item-end : goal.slice_bounds-is_item-end
slice_bounds-is_item-end g c = cut_count c.byte_end-e.ensures

pub returns-then-not-is_item : goal.returns-then-not-is_item
returns-then-not-is_item g c = items_bad c.args.p c.loop-p.invariant c.byte_end-e.ensures (sym c.is_item.ensures ∙ c.if-not-is_item.true)

pub returns-then-n-eq-END : goal.returns-then-n-eq-END
returns-then-n-eq-END g c = items_last c.args.p c.loop-p.invariant c.byte_end-e.ensures c.unit-n.ensures (sym c.is_item.ensures ∙ c.if-not-is_item.false) c.if-n-eq-END.true

pub loop-p-smaller : goal.loop-p-smaller
loop-p-smaller g c = pieces_less c.byte_end-e.ensures c.unit-n.ensures c.if-n-eq-END.false

pub loop-p-preserved : goal.loop-p-preserved
loop-p-preserved g c = items_more c.args.p c.loop-p.invariant c.byte_end-e.ensures c.unit-n.ensures (sym c.is_item.ensures ∙ c.if-not-is_item.false) c.if-n-eq-END.false
