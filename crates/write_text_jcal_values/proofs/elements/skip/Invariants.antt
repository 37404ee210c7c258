-- `write_text_jcal_values::skip` meets its contract. Assumes nothing.
use Prim.Native.Nat.{◌-◌}
use Rattle.write_text_jcal_values.specs.laws.Elements.{Skipping, skipping}
use Rattle.sink.specs.laws.Sink.{writing}
use Rattle.write_text_jcal_values.proofs.elements.skip.Given as goal

abbrev pub invariant-loop-i : goal.invariant-loop-i
invariant-loop-i l = Skipping l.s l.from l.k l.at l.i

abbrev pub decreases-loop-i : goal.decreases-loop-i
decreases-loop-i l = l.k - l.i
