-- `texts::read_after` meets its contract.
use mathlib.Core.Bool.{false}
use mathlib.Core.Path.{◌≡◌}
use Prim.Native.Nat.{◌-◌, ◌*◌}
use lib.ListN.{length}
use Rattle.source.specs.Source.{rest}
use Rattle.texts.specs.Uri.{uri_from}
use Rattle.texts.proofs.uri.read_after.Given as goal

abbrev pub invariant-loop-t : goal.invariant-loop-t
invariant-loop-t g l = uri_from false (rest g.E.Encoding.encoding l.s l.from) ≡ uri_from l.past (rest g.E.Encoding.encoding l.s l.c)

abbrev pub decreases-loop-t : goal.decreases-loop-t
decreases-loop-t g l = 4 * length l.s - l.c
