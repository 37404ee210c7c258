-- `read_text_parameters::collect` meets its contract.
use mathlib.Core.Path.{◌≡◌}
use Prim.Native.Nat.{◌*◌, ◌-◌}
use lib.ListN.{length}
use Rattle.read_text_parameters.specs.laws.Collecting.{Collecting}
use Rattle.read_text_parameters.proofs.once.collect.Given as goal

abbrev pub invariant-loop-a : goal.invariant-loop-a
invariant-loop-a g l = Collecting g.E.Encoding.encoding l.s l.e l.from l.to l.k l.c × (length l.from ≡ length l.initial.from) × (length l.to ≡ length l.initial.to)

abbrev pub decreases-loop-a : goal.decreases-loop-a
decreases-loop-a g l = 4 * length l.s - l.c
