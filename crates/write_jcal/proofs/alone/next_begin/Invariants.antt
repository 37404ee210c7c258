-- `write_jcal::alone::next_begin` meets its contract.
use Prim.Native.Nat.{◌-◌}
use lib.ListN.{length}
use Rattle.write_jcal.proofs.Seeking.{Seeking, seekings}
use Rattle.write_jcal.proofs.alone.next_begin.Given as goal

abbrev pub invariant-loop-at : goal.invariant-loop-at
invariant-loop-at g l = Seeking l.edition g.E.Encoding.encoding l.s l.from l.at

abbrev pub decreases-loop-at : goal.decreases-loop-at
decreases-loop-at g l = length l.s - l.at
