-- `write_text::properties::put_properties` meets its contract.
use Prim.Native.Nat.{◌-◌}
use lib.ListN.{length}
use Rattle.write_text.specs.laws.Walks.{Walking, own, owns}
use Rattle.write_text.proofs.properties.put_properties.Goals as goal

pub loop-element-init : goal.loop-element-init
loop-element-init c = search owns

pub next_node-n-requires : goal.next_node-n-requires
next_node-n-requires c = search owns

pub shape_of-out-in-Absent : goal.shape_of-out-in-Absent
shape_of-out-in-Absent c = search owns

pub shape_of-line-in-Absent : goal.shape_of-line-in-Absent
shape_of-line-in-Absent c = search owns

pub returns-in-Absent : goal.returns-in-Absent
returns-in-Absent c = search owns

pub put_property_line-p-requires : goal.put_property_line-p-requires
put_property_line-p-requires c = search owns

pub loop-element-smaller-in-Element : goal.loop-element-smaller-in-Element
loop-element-smaller-in-Element c = search owns

pub loop-element-preserved-in-Element : goal.loop-element-preserved-in-Element
loop-element-preserved-in-Element c = search owns

pub loop-element-smaller-in-Literal : goal.loop-element-smaller-in-Literal
loop-element-smaller-in-Literal c = search owns

pub loop-element-preserved-in-Literal : goal.loop-element-preserved-in-Literal
loop-element-preserved-in-Literal c = search owns

pub loop-element-smaller : goal.loop-element-smaller
loop-element-smaller c = search owns

pub loop-element-preserved : goal.loop-element-preserved
loop-element-preserved c = search owns
