-- `text_entries::passing::pass_component` meets its contract.
use Prim.Native.Nat.{◌-◌}
use lib.ListN.{length}
use Rattle.text_entries.proofs.Past.{Passing}
use Rattle.text_entries.proofs.passing.pass_component.Given as goal

abbrev pub invariant-loop-at : goal.invariant-loop-at
invariant-loop-at g l = Passing l.edition g.E.Encoding.encoding l.s l.from l.at l.depth

abbrev pub decreases-loop-at : goal.decreases-loop-at
decreases-loop-at g l = length l.s - l.at
