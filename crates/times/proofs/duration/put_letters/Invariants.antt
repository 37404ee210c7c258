-- `times::duration::put_letters` meets its contract.
use mathlib.Core.Path.{◌≡◌}
use Prim.Native.Nat.{◌*◌, ◌-◌}
use lib.ListN.{length}
use Rattle.source.specs.Source.{rest}
use Rattle.sink.specs.Sink.{Todo}
use Rattle.times.specs.Letters.{cased}
use Rattle.times.proofs.duration.put_letters.Given as goal

abbrev pub invariant-loop-a : goal.invariant-loop-a
invariant-loop-a g l = Todo l.initial.out l.o (cased l.exact (rest g.E.Encoding.encoding l.s l.at)) l.out l.p (cased l.exact (rest g.E.Encoding.encoding l.s l.c)) × (length l.out ≡ length l.initial.out)

abbrev pub decreases-loop-a : goal.decreases-loop-a
decreases-loop-a g l = 4 * length l.s - l.c
