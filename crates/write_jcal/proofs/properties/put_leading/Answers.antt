-- `write_jcal::properties::put_leading` meets its contract.
use Prim.Native.Nat.{◌-◌}
use lib.ListN.{length}
use lib.Seq.{length-take-le}
use borrow.Author.Rules.{rules}
use Rattle.text_entries.specs.laws.Entries.{property_inside}
use Rattle.write_jcal.proofs.Leading.{Leading, leadings}
use Rattle.write_jcal.proofs.properties.put_leading.Goals as goal

pub loop-at-init : goal.loop-at-init
loop-at-init g c = search leadings

pub entry_at-f-requires : goal.entry_at-f-requires
entry_at-f-requires g c = search leadings

pub shape_of-out-in-Begin : goal.shape_of-out-in-Begin
shape_of-out-in-Begin g c = search leadings

pub returns-in-Begin : goal.returns-in-Begin
returns-in-Begin g c = search leadings

pub shape_of-out-in-End : goal.shape_of-out-in-End
shape_of-out-in-End g c = search leadings

pub returns-in-End : goal.returns-in-End
returns-in-End g c = search leadings

pub slice_bounds-put_next_property-end : goal.slice_bounds-put_next_property-end
slice_bounds-put_next_property-end g c = search (length-take-le, rules)

pub put_next_property-p-requires : goal.put_next_property-p-requires
put_next_property-p-requires g c = search (property_inside, rules)

pub loop-at-smaller-in-Property : goal.loop-at-smaller-in-Property
loop-at-smaller-in-Property g c = search leadings

pub loop-at-preserved-in-Property : goal.loop-at-preserved-in-Property
loop-at-preserved-in-Property g c = search leadings

pub loop-at-smaller : goal.loop-at-smaller
loop-at-smaller g c = search leadings

pub loop-at-preserved : goal.loop-at-preserved
loop-at-preserved g c = search leadings

pub shape_of-out : goal.shape_of-out
shape_of-out g c = search leadings

pub returns : goal.returns
returns g c = search leadings
