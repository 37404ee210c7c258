-- `read_text::component::body`, which calls itself, meets its contract.
use Prim.Native.Nat.{◌-◌}
use lib.ListN.{length}
use Rattle.octets.specs.Class.{upper}
use Rattle.source.specs.Source.{rest}
use Rattle.read_text.proofs.Walk.{Reached}
use Rattle.read_text.proofs.component.+body.Given as goal

abbrev pub decreases-body : goal.decreases-body
decreases-body g l = l.left

abbrev pub invariant-loop-at : goal.invariant-loop-at
invariant-loop-at g l = Reached l.edition (upper (rest g.E.Encoding.encoding l.name l.v)) l.left l.method g.E.Encoding.encoding l.s l.from l.at l.counts l.action l.inner

abbrev pub decreases-loop-at : goal.decreases-loop-at
decreases-loop-at g l = length l.s - l.at
