-- `write_text_values::rule::put_items` meets its contract.
use Prim.Native.Nat.{◌-◌}
use lib.ListN.{length}
use Rattle.write_text_values.specs.laws.PutRule.{Itemizing, items_start, items_more, items_end, item_less}
use Rattle.sink.specs.laws.Sink.{writing}
use Rattle.write_text_values.proofs.rule.put_items.Given as goal

abbrev pub invariant-loop-item : goal.invariant-loop-item
invariant-loop-item l = Itemizing l.p l.s l.inside l.initial.out l.o l.out l.q l.c l.started

abbrev pub decreases-loop-item : goal.decreases-loop-item
decreases-loop-item l = length l.s - l.c
