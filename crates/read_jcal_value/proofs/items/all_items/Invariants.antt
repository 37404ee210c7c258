-- `read_jcal_value::all_items` meets its contract.
use Prim.Native.Nat.{◌-◌}
use lib.ListN.{length}
use Rattle.read_jcal_value.specs.Items.{item_in}
use Rattle.read_jcal_value.specs.laws.Elements.{Each}
use Rattle.read_jcal_value.proofs.items.all_items.Given as goal

abbrev pub invariant-loop-h : goal.invariant-loop-h
invariant-loop-h l = Each (item_in l.i) l.s l.from l.c

abbrev pub decreases-loop-h : goal.decreases-loop-h
decreases-loop-h l = length l.s - l.c
