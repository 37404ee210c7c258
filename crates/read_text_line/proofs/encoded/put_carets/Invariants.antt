-- `read_text_line::encoded::put_carets` meets its contract.
use mathlib.Core.Path.{◌≡◌}
use Prim.Native.Nat.{◌-◌, ◌*◌}
use lib.ListN.{length}
use Rattle.sink.specs.Sink.{Todo}
use Rattle.sink.specs.laws.Sink.{each}
use Rattle.source.specs.Source.{rest}
use Rattle.edition.specs.Edition.{encode_byte}
use Rattle.read_text_line.proofs.encoded.put_carets.Given as goal

abbrev pub invariant-loop-t : goal.invariant-loop-t
invariant-loop-t g l = Todo l.initial.out l.at (each encode_byte (rest g.E.Encoding.encoding l.s l.from)) l.out l.o (each encode_byte (rest g.E.Encoding.encoding l.s l.c)) × (length l.out ≡ length l.initial.out)

abbrev pub decreases-loop-t : goal.decreases-loop-t
decreases-loop-t g l = 4 * length l.s - l.c
