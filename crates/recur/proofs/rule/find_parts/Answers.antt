-- `recur::rule::find_parts` meets its contract.
use native.Mathlib.Omega.{arith}
use mathlib.Core.Path.{sym, ◌∙◌}
use Rattle.recur.specs.laws.PieceLaws.{cut_count, cut_inside, pieces_less}
use Rattle.recur.specs.laws.NotedLaws.{walk_start, walk_bad, walk_again, walk_place, walk_whole, walk_short, walk_more}
use Rattle.recur.proofs.rule.find_parts.Goals as goal

pub loop-begins-init : goal.loop-begins-init
loop-begins-init g c = walk_start _ _ _ c.requires

pub byte_end-e-requires : goal.byte_end-e-requires
byte_end-e-requires g c = c.loop-begins.invariant.inside

pub slice_bounds-part_place-end : goal.slice_bounds-part_place-end
slice_bounds-part_place-end g c = cut_count c.byte_end-e.ensures

pub part_place-p-requires : goal.part_place-p-requires
part_place-p-requires g c = cut_inside c.byte_end-e.ensures

pub slice_bounds-is_part-end : goal.slice_bounds-is_part-end
slice_bounds-is_part-end g c = cut_count c.byte_end-e.ensures

pub is_part-requires : goal.is_part-requires
is_part-requires g c = (c.part_place-p.ensures, cut_inside c.byte_end-e.ensures)

pub returns-then-not-is_part : goal.returns-then-not-is_part
returns-then-not-is_part g c = walk_bad c.loop-begins.invariant c.byte_end-e.ensures c.part_place-p.ensures (sym c.is_part.ensures ∙ c.if-not-is_part.true)

pub bounds-begins-p : goal.bounds-begins-p
bounds-begins-p g c = walk_place c.loop-begins.invariant c.byte_end-e.ensures c.part_place-p.ensures (sym c.is_part.ensures ∙ c.if-not-is_part.false)

pub returns-then-is_some : goal.returns-then-is_some
returns-then-is_some g c = walk_again c.loop-begins.invariant c.byte_end-e.ensures c.part_place-p.ensures (sym c.is_some.ensures ∙ c.if-is_some.true)

pub offset_bounds-begins-p : goal.offset_bounds-begins-p
offset_bounds-begins-p g c = let k = walk_place c.loop-begins.invariant c.byte_end-e.ensures c.part_place-p.ensures (sym c.is_part.ensures ∙ c.if-not-is_part.false) in omega arith

pub offset_bounds-begins-p-in-loop-begins : goal.offset_bounds-begins-p-in-loop-begins
offset_bounds-begins-p-in-loop-begins g c = let k = walk_place c.loop-begins.invariant c.byte_end-e.ensures c.part_place-p.ensures (sym c.is_part.ensures ∙ c.if-not-is_part.false) in omega arith

pub bounds-begins-p-in-loop-begins : goal.bounds-begins-p-in-loop-begins
bounds-begins-p-in-loop-begins g c = walk_place c.loop-begins.invariant c.byte_end-e.ensures c.part_place-p.ensures (sym c.is_part.ensures ∙ c.if-not-is_part.false)

pub returns-then-is_whole : goal.returns-then-is_whole
returns-then-is_whole g c = walk_whole c.loop-begins.invariant c.byte_end-e.ensures c.part_place-p.ensures (sym c.is_part.ensures ∙ c.if-not-is_part.false) (sym c.is_some.ensures ∙ c.if-is_some.false) c.unit-n.ensures c.if-n-eq-END.true (sym c.is_whole.ensures ∙ c.if-is_whole.true)

pub returns-then-n-eq-END : goal.returns-then-n-eq-END
returns-then-n-eq-END g c = walk_short c.loop-begins.invariant c.byte_end-e.ensures c.part_place-p.ensures (sym c.is_part.ensures ∙ c.if-not-is_part.false) (sym c.is_some.ensures ∙ c.if-is_some.false) c.unit-n.ensures c.if-n-eq-END.true (sym c.is_whole.ensures ∙ c.if-is_whole.false)

pub loop-begins-smaller : goal.loop-begins-smaller
loop-begins-smaller g c = pieces_less c.byte_end-e.ensures c.unit-n.ensures c.if-n-eq-END.false

pub loop-begins-preserved : goal.loop-begins-preserved
loop-begins-preserved g c = walk_more c.loop-begins.invariant c.byte_end-e.ensures c.part_place-p.ensures (sym c.is_part.ensures ∙ c.if-not-is_part.false) (sym c.is_some.ensures ∙ c.if-is_some.false) c.unit-n.ensures c.if-n-eq-END.false
