-- `write_text::components::put_components`, which calls itself, meets its contract. The measure is the levels that are left.
use mathlib.Core.Path.{◌∙◌}
use Prim.Native.Nat.{ℕ, ◌-◌, ◌<◌}
use native.Mathlib.Omega.{arith}
use lib.ListN.{length}
use Rattle.write_text.specs.laws.Walks.{Walking, inner, inner_put, inners}
use Rattle.write_text.proofs.components.+put_components.Given as goal

abbrev pub decreases-put_components : goal.decreases-put_components
decreases-put_components l = l.left

abbrev pub invariant-loop-out : goal.invariant-loop-out
invariant-loop-out l = Walking l.edition (inner l.left) l.s l.from l.initial.out l.o l.initial.line l.out l.p l.line l.at

abbrev pub decreases-loop-out : goal.decreases-loop-out
decreases-loop-out l = length l.s - l.at
