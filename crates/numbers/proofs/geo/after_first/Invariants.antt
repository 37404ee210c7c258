-- `numbers::geo::after_first` meets its contract.
use lib.ListN.{length}
use Prim.Native.Nat.{◌-◌, ◌*◌}
use mathlib.Core.Path.{◌≡◌}
use Rattle.numbers.specs.FloatParts.{more_after}
use Rattle.source.specs.Source.{rest}
use Rattle.numbers.proofs.geo.after_first.Given as goal

abbrev pub invariant-loop-t : goal.invariant-loop-t
invariant-loop-t g l = more_after l.c (rest g.E.Encoding.encoding l.s l.at) ≡ more_after l.c (rest g.E.Encoding.encoding l.s l.i)

abbrev pub decreases-loop-t : goal.decreases-loop-t
decreases-loop-t g l = 4 * length l.s - l.i
