-- `write_jcal::properties::put_following` meets its contract.
use Prim.Native.Nat.{◌-◌}
use lib.ListN.{length}
use lib.Seq.{length-take-le}
use borrow.Author.Rules.{rules}
use Rattle.text_entries.specs.laws.Entries.{property_inside}
use Rattle.write_jcal.proofs.Walking.{Walking, own, owns}
use Rattle.write_jcal.proofs.properties.put_following.Given as goal

abbrev pub invariant-loop-at : goal.invariant-loop-at
invariant-loop-at g l = Walking l.edition l.before (own l.k) g.E.Encoding.encoding l.s l.from l.initial.out l.o l.out l.p l.started l.at

abbrev pub decreases-loop-at : goal.decreases-loop-at
decreases-loop-at g l = length l.s - l.at
