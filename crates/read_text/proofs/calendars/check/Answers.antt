-- `read_text::calendars::check` meets its contract.
use mathlib.Core.Path.{subst}
use native.Mathlib.Omega.{arith}
use borrow.Author.Rules.{rules}
use Rattle.read_text.specs.Outer.{Outer}
use Rattle.read_text.proofs.Walk.{between_none, between_more, checked_refused, checked_fine, checked_empty}
use Rattle.std.proofs.Common.{◌≡◌, Err, rules}
use Rattle.read_text.proofs.calendars.check.Goals as goal

pub returns-then-s-start : goal.returns-then-s-start
returns-then-s-start g c = rw c.at.ensures (checked_empty g.met.E.Cuttable.cut c.settled-start.ensures c.if-s-start.true)

pub loop-at-init : goal.loop-at-init
loop-at-init g c = between_none g.met.E.Cuttable.cut c.settled-start.ensures c.if-s-start.false

pub calendar-requires : goal.calendar-requires
calendar-requires g c = (c.loop-at.invariant.high, c.loop-at-test.true)

pub loop-at-smaller : goal.loop-at-smaller
loop-at-smaller g c = let o = (subst (Outer _ _ _ _) c.in_ok-next.was c.calendar.ensures) in omega (arith, o.ends.0, o.ends.1.most)

pub loop-at-preserved : goal.loop-at-preserved
loop-at-preserved g c = between_more c.loop-at.invariant (subst (Outer _ _ _ _) c.in_ok-next.was c.calendar.ensures)

pub returns-in_err-next : goal.returns-in_err-next
returns-in_err-next g c = let e : c.from_residual.result ≡ Err c.in_err-next.field-0.0 = search rules in rw e (checked_refused c.loop-at.invariant (subst (Outer _ _ _ _) c.in_err-next.was c.calendar.ensures))

pub returns : goal.returns
returns g c = checked_fine c.loop-at.invariant c.loop-at-test.false
