-- `write_text_jcal::put_properties` meets its contract. Assumes nothing.
use Rattle.write_text_jcal.specs.laws.Walks.{Walking, own_text, own_room, own_fits, own_start, own_within, own_put, own_end}
use Rattle.write_text_jcal_values.specs.laws.Elements.{there_less}
use lib.ListN.{length}
use Prim.Native.Nat.{◌-◌}
use Rattle.sink.specs.laws.Sink.{writing}
use Rattle.write_text_jcal.proofs.properties.put_properties.Given as goal

abbrev pub invariant-loop-inside : goal.invariant-loop-inside
invariant-loop-inside l = Walking (own_text l.edition l.k) (own_room l.edition l.k) (own_fits l.edition l.k (length l.initial.line)) l.s l.from l.initial.out l.o l.initial.line l.out l.p l.line l.at

abbrev pub decreases-loop-inside : goal.decreases-loop-inside
decreases-loop-inside l = length l.s - l.at
