-- `write_jcal_value::text::put_strings` meets its contract.
use mathlib.Core.Bool.{false}
use mathlib.Core.Path.{◌≡◌}
use Prim.Native.Nat.{◌-◌, ◌*◌}
use lib.ListN.{length}
use Rattle.sink.specs.Sink.{Todo}
use Rattle.source.specs.Source.{rest}
use Rattle.write_jcal_value.specs.Texts.{strings_from}
use Rattle.write_jcal_value.specs.laws.Texts.{writing_strings}
use Rattle.write_jcal_value.proofs.text.put_strings.Given as goal

abbrev pub invariant-loop-t : goal.invariant-loop-t
invariant-loop-t g l = Todo l.initial.out l.at (strings_from false (rest g.E.Encoding.encoding l.s l.from)) l.out l.o (strings_from l.after (rest g.E.Encoding.encoding l.s l.c)) × (length l.out ≡ length l.initial.out)

abbrev pub decreases-loop-t : goal.decreases-loop-t
decreases-loop-t g l = 4 * length l.s - l.c
