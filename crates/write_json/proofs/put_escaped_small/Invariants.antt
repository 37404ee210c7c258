-- `write_json::put_escaped_small` meets its contract.
use mathlib.Core.Path.{◌≡◌}
use Prim.Native.Nat.{◌-◌, ◌*◌}
use native.Mathlib.Omega.{arith}
use lib.ListN.{length}
use Rattle.sink.specs.Sink.{Todo}
use Rattle.sink.specs.laws.Sink.{each}
use Rattle.source.specs.Source.{rest}
use Rattle.source.specs.laws.Facts.{byte_small}
use Rattle.write_json.specs.laws.Escaped.{small_byte, small_each, small_small, lettering}
use Rattle.write_json.proofs.put_escaped_small.Given as goal

abbrev pub invariant-loop-t : goal.invariant-loop-t
invariant-loop-t g l = Todo l.initial.out l.at (each small_byte (rest g.E.Encoding.encoding l.s l.from)) l.out l.o (each small_byte (rest g.E.Encoding.encoding l.s l.c)) × (length l.out ≡ length l.initial.out)

abbrev pub decreases-loop-t : goal.decreases-loop-t
decreases-loop-t g l = 4 * length l.s - l.c
