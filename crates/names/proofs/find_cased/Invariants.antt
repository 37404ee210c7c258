-- `names::find_cased` meets its contract.
use Prim.Native.Nat.{◌-◌}
use lib.ListN.{length}
use Rattle.names.specs.laws.Matching.{Seeking}
use Rattle.names.proofs.find_cased.Given as goal

abbrev pub invariant-loop-i : goal.invariant-loop-i
invariant-loop-i g l = Seeking l.k g.E.Encoding.encoding l.s l.at l.table l.name l.word l.i

abbrev pub decreases-loop-i : goal.decreases-loop-i
decreases-loop-i g l = length l.table - l.i
