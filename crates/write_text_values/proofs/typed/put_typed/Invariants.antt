-- `write_text_values::typed::put_typed` meets its contract.
use Prim.Native.Nat.{◌-◌}
use lib.ListN.{length}
use Rattle.write_text_values.specs.laws.Typed.{Valuing, values_start, values_more, values_end, typed_less}
use Rattle.sink.specs.laws.Sink.{writing}
use Rattle.write_text_values.proofs.typed.put_typed.Given as goal

abbrev pub invariant-loop-value : goal.invariant-loop-value
invariant-loop-value l = Valuing l.s l.inside l.initial.out l.o l.out l.q l.c l.started

abbrev pub decreases-loop-value : goal.decreases-loop-value
decreases-loop-value l = length l.s - l.c
