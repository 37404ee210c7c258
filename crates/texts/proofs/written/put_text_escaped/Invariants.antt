-- `texts::put_text_escaped` meets its contract.
use mathlib.Core.Path.{◌≡◌}
use Prim.Native.Nat.{◌-◌, ◌*◌}
use lib.ListN.{length}
use Rattle.sink.specs.Sink.{Todo}
use Rattle.sink.specs.laws.Sink.{each}
use Rattle.source.specs.Source.{rest}
use Rattle.texts.specs.Text.{escape_text}
use Rattle.texts.proofs.written.put_text_escaped.Given as goal

abbrev pub invariant-loop-t : goal.invariant-loop-t
invariant-loop-t g l = Todo l.initial.out l.at (each escape_text (rest g.E.Encoding.encoding l.s l.from)) l.out l.o (each escape_text (rest g.E.Encoding.encoding l.s l.c)) × (length l.out ≡ length l.initial.out)

abbrev pub decreases-loop-t : goal.decreases-loop-t
decreases-loop-t g l = 4 * length l.s - l.c
