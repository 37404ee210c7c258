-- `texts::put_base64` meets its contract.
use mathlib.Core.Path.{◌≡◌}
use Prim.Native.Nat.{◌-◌, ◌*◌}
use lib.ListN.{length}
use Rattle.calendar.specs.Calendar.{format_of}
use Rattle.sink.specs.Sink.{Todo}
use Rattle.source.specs.Source.{rest}
use Rattle.texts.specs.Binary.{binary_chars}
use Rattle.texts.proofs.chars.put_base64.Given as goal

abbrev pub invariant-loop-t : goal.invariant-loop-t
invariant-loop-t g l = Todo l.initial.out l.at (binary_chars (format_of l.xcal) (rest g.E.Encoding.encoding l.s l.from)) l.out l.o (binary_chars (format_of l.xcal) (rest g.E.Encoding.encoding l.s l.c)) × (length l.out ≡ length l.initial.out)

abbrev pub decreases-loop-t : goal.decreases-loop-t
decreases-loop-t g l = 4 * length l.s - l.c
