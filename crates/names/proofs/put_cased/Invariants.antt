-- `names::put_cased` meets its contract.
use Prim.Native.Nat.{◌*◌, ◌-◌}
use lib.ListN.{length}
use Rattle.names.specs.laws.Runs.{Copying}
use Rattle.names.proofs.put_cased.Given as goal

abbrev pub invariant-loop-k : goal.invariant-loop-k
invariant-loop-k g l = Copying l.k g.E.Encoding.encoding l.s l.at l.initial.out l.o l.out l.p l.c

abbrev pub decreases-loop-k : goal.decreases-loop-k
decreases-loop-k g l = 4 * length l.s - l.c
