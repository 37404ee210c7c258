-- `write_xml::properties::put_following` meets its contract.
use Prim.Native.Nat.{◌-◌}
use lib.ListN.{length}
use lib.Seq.{length-take-le}
use borrow.Author.Rules.{rules}
use Rattle.text_entries.specs.laws.Entries.{property_inside}
use Rattle.write_xml.proofs.Walking.{Walking, own, owns}
use Rattle.write_xml.proofs.properties.put_following.Goals as goal

pub loop-at-init : goal.loop-at-init
loop-at-init g c = search owns

pub entry_at-f-requires : goal.entry_at-f-requires
entry_at-f-requires g c = search owns

pub pass_component-at-requires : goal.pass_component-at-requires
pass_component-at-requires g c = search owns

pub loop-at-smaller-in-Begin : goal.loop-at-smaller-in-Begin
loop-at-smaller-in-Begin g c = search owns

pub loop-at-preserved-in-Begin : goal.loop-at-preserved-in-Begin
loop-at-preserved-in-Begin g c = search owns

pub shape_of-out-in-End : goal.shape_of-out-in-End
shape_of-out-in-End g c = search owns

pub returns-in-End : goal.returns-in-End
returns-in-End g c = search owns

pub slice_bounds-put_property-end : goal.slice_bounds-put_property-end
slice_bounds-put_property-end g c = search (length-take-le, rules)

pub put_property-p-requires : goal.put_property-p-requires
put_property-p-requires g c = search (property_inside, rules)

pub loop-at-smaller-in-Property : goal.loop-at-smaller-in-Property
loop-at-smaller-in-Property g c = search owns

pub loop-at-preserved-in-Property : goal.loop-at-preserved-in-Property
loop-at-preserved-in-Property g c = search owns

pub loop-at-smaller : goal.loop-at-smaller
loop-at-smaller g c = search owns

pub loop-at-preserved : goal.loop-at-preserved
loop-at-preserved g c = search owns

pub shape_of-out : goal.shape_of-out
shape_of-out g c = search owns

pub returns : goal.returns
returns g c = search owns
