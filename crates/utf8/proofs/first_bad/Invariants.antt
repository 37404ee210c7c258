-- `utf8::first_bad` meets its contract.
use Prim.Native.Nat.{◌-◌}
use lib.ListN.{length}
use Rattle.octets.specs.laws.Scan.{FoldingI}
use Rattle.utf8.specs.Automaton.{start, step}
use Rattle.utf8.proofs.first_bad.Given as goal

abbrev pub invariant-loop-i : goal.invariant-loop-i
invariant-loop-i l = FoldingI step start l.s l.st l.i

abbrev pub decreases-loop-i : goal.decreases-loop-i
decreases-loop-i l = length l.s - l.i
