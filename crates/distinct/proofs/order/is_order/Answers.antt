-- `distinct::is_order` meets its contract.
use Rattle.distinct.specs.Rising.{Ranked}
use Rattle.distinct.specs.laws.Rising.{ranked_start, ranked_more, ranked_end}
use mathlib.Core.Bool.{false≢true}
use Prim.Native.Nat.{◌-◌}
use borrow.Author.Rules.{rules}
use native.Mathlib.Omega.{arith}
use Rattle.distinct.proofs.order.is_order.Goals as goal

pub loop-p-init : goal.loop-p-init
loop-p-init c = ranked_start

pub loop-p-preserved : goal.loop-p-preserved
loop-p-preserved c = ranked_more c.loop-p.invariant c.number_at-r.ensures (omega (arith, c.if-n-r.false)) c.number_at.ensures c.if-number_at-p.false

pub returns-then-n-r : goal.returns-then-n-r
returns-then-n-r c = λ h. absurd (false≢true h)

pub returns : goal.returns
returns c = λ h. ranked_end c.loop-p.invariant c.loop-p-test.false
