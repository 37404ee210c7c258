-- `write_text::properties::put_properties` meets its contract.
use Prim.Native.Nat.{◌-◌}
use lib.ListN.{length}
use Rattle.write_text.specs.laws.Walks.{Walking, own, owns}
use Rattle.write_text.proofs.properties.put_properties.Given as goal

abbrev pub invariant-loop-element : goal.invariant-loop-element
invariant-loop-element l = Walking l.edition own l.s l.from l.initial.out l.o l.initial.line l.out l.p l.line l.at

abbrev pub decreases-loop-element : goal.decreases-loop-element
decreases-loop-element l = length l.s - l.at
