-- `numbers::scan::zeros_end` meets its contract.
use lib.ListN.{length}
use Prim.Native.Nat.{◌-◌, ◌*◌}
use mathlib.Core.Path.{◌≡◌}
use Rattle.numbers.specs.Float.{no_leading}
use Rattle.numbers.specs.Until.{until}
use Rattle.numbers.proofs.scan.zeros_end.Given as goal

abbrev pub invariant-loop-t : goal.invariant-loop-t
invariant-loop-t g l = no_leading (until l.stop g.E.Encoding.encoding l.s l.at) ≡ no_leading (until l.stop g.E.Encoding.encoding l.s l.c)

abbrev pub decreases-loop-t : goal.decreases-loop-t
decreases-loop-t g l = 4 * length l.s - l.c
