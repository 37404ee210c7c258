-- `write_jcal_value::rule::put_each_item` meets its contract.
use mathlib.Core.List.{[]}
use Prim.Native.Nat.{◌-◌}
use lib.ListN.{length, get_or}
use Rattle.recur.specs.Parts.{part_names}
use Rattle.recur.specs.laws.PieceLaws.{cut_count, pieces_less}
use Rattle.sink.specs.laws.Sink.{writing}
use Rattle.write_jcal_value.specs.Rules.{item_shown}
use Rattle.write_jcal_value.specs.laws.Pieces.{Piecing, piecing_start, piecing_more, piecing_end}
use Rattle.write_jcal_value.proofs.rule.put_each_item.Goals as goal

pub loop-n-init : goal.loop-n-init
loop-n-init g c = search (piecing_start, writing)

pub byte_end-e-requires : goal.byte_end-e-requires
byte_end-e-requires g c = c.loop-n.invariant.inside

pub slice_bounds-put_item_json-end : goal.slice_bounds-put_item_json-end
slice_bounds-put_item_json-end g c = cut_count c.byte_end-e.ensures

pub put_item_json-a-requires : goal.put_item_json-a-requires
put_item_json-a-requires g c = search writing

pub unit-n-requires : goal.unit-n-requires
unit-n-requires g c = search writing

pub shape_of-out-then-u-eq-END : goal.shape_of-out-then-u-eq-END
shape_of-out-then-u-eq-END g c = search writing

pub returns-then-u-eq-END : goal.returns-then-u-eq-END
returns-then-u-eq-END g c = search (piecing_end, writing)

pub put-q-requires : goal.put-q-requires
put-q-requires g c = search writing

pub loop-n-smaller : goal.loop-n-smaller
loop-n-smaller g c = search (pieces_less, writing)

pub loop-n-preserved : goal.loop-n-preserved
loop-n-preserved g c = search (piecing_more, writing)
