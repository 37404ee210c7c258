-- `texts::read_unknown` meets its contract.
use mathlib.Core.Path.{◌≡◌}
use Prim.Native.Nat.{◌-◌, ◌*◌}
use lib.ListN.{length}
use Rattle.source.specs.Source.{rest}
use Rattle.texts.specs.Unknown.{is_unknown}
use Rattle.texts.proofs.unknown.read_unknown.Given as goal

abbrev pub invariant-loop-t : goal.invariant-loop-t
invariant-loop-t g l = is_unknown (rest g.E.Encoding.encoding l.s l.at) ≡ is_unknown (rest g.E.Encoding.encoding l.s l.c)

abbrev pub decreases-loop-t : goal.decreases-loop-t
decreases-loop-t g l = 4 * length l.s - l.c
