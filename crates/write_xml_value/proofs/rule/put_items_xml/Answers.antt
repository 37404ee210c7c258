-- `write_xml_value::put_items_xml` meets its contract.
use mathlib.Core.List.{[]}
use Prim.Native.Nat.{◌-◌}
use lib.ListN.{length, get_or}
use Rattle.recur.specs.laws.PieceLaws.{cut_count, pieces_less}
use Rattle.recur.specs.Parts.{part_names}
use Rattle.sink.specs.laws.Sink.{writing}
use Rattle.write_xml_value.specs.laws.PutRule.{Itemizing, items_start, items_more, items_end}
use Rattle.write_xml_value.proofs.rule.put_items_xml.Goals as goal

pub loop-n-init : goal.loop-n-init
loop-n-init g c = search (items_start, writing)

pub byte_end-e-requires : goal.byte_end-e-requires
byte_end-e-requires g c = c.loop-n.invariant.inside

pub slice_bounds-put_item_xml-end : goal.slice_bounds-put_item_xml-end
slice_bounds-put_item_xml-end g c = cut_count c.byte_end-e.ensures

pub put_item_xml-q-requires : goal.put_item_xml-q-requires
put_item_xml-q-requires g c = search writing

pub unit-n-requires : goal.unit-n-requires
unit-n-requires g c = search writing

pub shape_of-out-then-u-eq-END : goal.shape_of-out-then-u-eq-END
shape_of-out-then-u-eq-END g c = search writing

pub returns-then-u-eq-END : goal.returns-then-u-eq-END
returns-then-u-eq-END g c = items_end c.loop-n.invariant c.byte_end-e.ensures c.put_item_xml-q.ensures c.unit-n.ensures c.if-u-eq-END.true

pub loop-n-smaller : goal.loop-n-smaller
loop-n-smaller g c = pieces_less c.byte_end-e.ensures c.unit-n.ensures c.if-u-eq-END.false

pub loop-n-preserved : goal.loop-n-preserved
loop-n-preserved g c = items_more c.loop-n.invariant c.byte_end-e.ensures c.put_item_xml-q.ensures c.unit-n.ensures c.if-u-eq-END.false
