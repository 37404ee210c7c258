-- `write_text_jcal::put_components`, which calls itself, meets its contract. Assumes nothing.
use Rattle.write_text_jcal.specs.laws.Walks.{Walking, inner_text, inner_room, inner_fits, none_left, inner_start, inner_head, inner_inside, inner_tail, inner_put, inner_end}
use Rattle.write_text_jcal_values.specs.laws.Elements.{there_less}
use Prim.Native.Nat.{◌-◌}
use lib.ListN.{length}
use native.Mathlib.Omega.{arith}
use mathlib.Core.Path.{◌∙◌}
use Rattle.sink.specs.laws.Sink.{writing}
use Prim.Native.Nat.{ℕ, ◌<◌}
use Rattle.write_text_jcal.proofs.components.+put_components.Given as goal

abbrev pub decreases-put_components : goal.decreases-put_components
decreases-put_components l = l.left

abbrev pub invariant-loop-inside : goal.invariant-loop-inside
invariant-loop-inside l = Walking (inner_text l.edition l.left) (inner_room l.edition l.left) (inner_fits l.edition l.left (length l.initial.line)) l.s l.from l.initial.out l.o l.initial.line l.out l.p l.line l.at

abbrev pub decreases-loop-inside : goal.decreases-loop-inside
decreases-loop-inside l = length l.s - l.at
