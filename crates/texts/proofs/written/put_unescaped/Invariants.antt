-- `texts::put_unescaped` meets its contract.
use mathlib.Core.Bool.{false}
use mathlib.Core.Path.{◌≡◌}
use Prim.Native.Nat.{◌-◌, ◌*◌}
use lib.ListN.{length}
use Rattle.sink.specs.Sink.{Todo}
use Rattle.source.specs.Source.{rest}
use Rattle.xml.specs.Escape.{escaped}
use Rattle.texts.specs.Unescaped.{unescaped}
use Rattle.texts.proofs.written.put_unescaped.Given as goal

abbrev pub invariant-loop-t : goal.invariant-loop-t
invariant-loop-t g l = Todo l.initial.out l.at (escaped (unescaped false (rest g.E.Encoding.encoding l.s l.from))) l.out l.o (escaped (unescaped l.after (rest g.E.Encoding.encoding l.s l.c))) × (length l.out ≡ length l.initial.out)

abbrev pub decreases-loop-t : goal.decreases-loop-t
decreases-loop-t g l = 4 * length l.s - l.c
