-- `numbers::float::put_trimmed` meets its contract.
use lib.ListN.{length}
use Prim.Native.Nat.{◌≤◌, ◌-◌, ◌*◌}
use mathlib.Core.Path.{◌≡◌}
use Rattle.sink.specs.Sink.{Todo}
use Rattle.octets.specs.Append.{◌⊕◌}
use Rattle.numbers.specs.Worth.{zeros}
use Rattle.numbers.specs.Float.{no_trailing}
use Rattle.numbers.specs.Until.{until}
use Rattle.numbers.proofs.float.put_trimmed.Given as goal

abbrev pub invariant-loop-t : goal.invariant-loop-t
invariant-loop-t g l = Todo l.initial.out l.o (no_trailing (until l.stop g.E.Encoding.encoding l.s l.at)) l.out l.q (no_trailing (zeros l.k ⊕ until l.stop g.E.Encoding.encoding l.s l.c)) × (l.k ≤ l.c) × (length l.out ≡ length l.initial.out)

abbrev pub decreases-loop-t : goal.decreases-loop-t
decreases-loop-t g l = 4 * length l.s - l.c
