-- `texts::read_binary` meets its contract.
use mathlib.Core.Path.{◌≡◌}
use Prim.Native.Nat.{◌-◌, ◌*◌, ◌≤◌}
use lib.ListN.{length}
use Rattle.calendar.specs.Calendar.{format_of}
use Rattle.source.specs.Source.{rest}
use Rattle.texts.specs.Binary.{is_binary, binary_from, binary_chars}
use Rattle.texts.proofs.binary.read_binary.Given as goal

abbrev pub invariant-loop-t : goal.invariant-loop-t
invariant-loop-t g l = (is_binary (binary_chars (format_of l.xcal) (rest g.E.Encoding.encoding l.s l.at)) ≡ binary_from l.n l.last (binary_chars (format_of l.xcal) (rest g.E.Encoding.encoding l.s l.c))) × (l.n ≤ 5)

abbrev pub decreases-loop-t : goal.decreases-loop-t
decreases-loop-t g l = 4 * length l.s - l.c
