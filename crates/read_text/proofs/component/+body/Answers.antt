-- `read_text::component::body`, which calls itself, meets its contract.
use mathlib.Core.Path.{refl, sym, subst}
use native.Mathlib.Omega.{arith}
use borrow.Author.Rules.{rules}
use lib.Seq.{length-take-le}
use Rattle.read_text.specs.Turns.{Body}
use Rattle.read_text.proofs.Walk.{reached_none, reached_held, reached_inner, starts_number, starts_left, body_inner, body_closed, body_short, body_faulty, body_open}
use Rattle.std.proofs.Common.{ap, ◌∙◌, ◌≡◌, Ok, Err, rules}
use Rattle.read_text.proofs.component.+body.Goals as goal

pub loop-at-init : goal.loop-at-init
loop-at-init g t c = reached_none _ _ _ _ _ _ c.requires.0

pub next_line-l-requires : goal.next_line-l-requires
next_line-l-requires g t c = (c.requires.1, c.loop-at.invariant.high, c.loop-at-test.true)

pub slice_bounds-body-end : goal.slice_bounds-body-end
slice_bounds-body-end g t c = sym (length-take-le _ _ c.next_line-l.ensures.within)

pub overflow_sub-left : goal.overflow_sub-left
overflow_sub-left g t c = starts_left c.loop-at.invariant refl c.next_line-l.ensures (c.in_ok-n.was ∙ ap Ok c.in-Starts.is)

pub body-requires : goal.body-requires
body-requires g t c = λ κs h. (omega (arith, c.requires, starts_left c.loop-at.invariant refl c.next_line-l.ensures (c.in_ok-n.was ∙ ap Ok c.in-Starts.is)), (h, (c.next_line-l.ensures.high, starts_number c.loop-at.invariant refl c.next_line-l.ensures (c.in_ok-n.was ∙ ap Ok c.in-Starts.is))))

pub loop-at-smaller-in-Starts : goal.loop-at-smaller-in-Starts
loop-at-smaller-in-Starts g t c = let b = (subst (Body _ _ _ _ _ _ _) c.in_ok-next-in-Starts.was c.body.ensures) in omega (arith, b.ends.0, b.ends.1.most, c.next_line-l.ensures.low)

pub loop-at-preserved-in-Starts : goal.loop-at-preserved-in-Starts
loop-at-preserved-in-Starts g t c = reached_inner c.loop-at.invariant refl c.next_line-l.ensures (c.in_ok-n.was ∙ ap Ok c.in-Starts.is) c.requires.1 c.method_for-inside.ensures (subst (Body _ _ _ _ _ _ _) c.in_ok-next-in-Starts.was c.body.ensures)

pub returns-in_err-next-in-Starts : goal.returns-in_err-next-in-Starts
returns-in_err-next-in-Starts g t c = let e : c.from_residual-in_err-next-in-Starts.result ≡ Err c.in_err-next-in-Starts.field-0.0 = search rules in rw e (body_inner c.loop-at.invariant refl c.next_line-l.ensures (c.in_ok-n.was ∙ ap Ok c.in-Starts.is) c.requires.1 c.method_for-inside.ensures (subst (Body _ _ _ _ _ _ _) c.in_err-next-in-Starts.was c.body.ensures))

pub returns-then-complete : goal.returns-then-complete
returns-then-complete g t c = body_closed c.loop-at.invariant refl c.next_line-l.ensures (c.in_ok-n.was ∙ ap Ok c.in-Stops.is) c.requires.1 c.complete_counts-complete.ensures c.if-complete.true

pub returns-in-Stops : goal.returns-in-Stops
returns-in-Stops g t c = rw c.at.ensures (body_short c.loop-at.invariant refl c.next_line-l.ensures (c.in_ok-n.was ∙ ap Ok c.in-Stops.is) c.requires.1 c.complete_counts-complete.ensures c.if-complete.false)

pub loop-at-smaller : goal.loop-at-smaller
loop-at-smaller g t c = omega (arith, c.next_line-l.ensures.low)

pub loop-at-preserved : goal.loop-at-preserved
loop-at-preserved g t c = reached_held c.loop-at.invariant refl c.next_line-l.ensures (c.in_ok-n.was ∙ ap Ok c.in-Holds.is) c.bump-more.ensures c.action_after-action.ensures

pub returns-in_err-n : goal.returns-in_err-n
returns-in_err-n g t c = let e : c.from_residual.result ≡ Err c.in_err-n.field-0.0 = search rules in rw e (body_faulty c.loop-at.invariant refl c.next_line-l.ensures c.in_err-n.was)

pub returns : goal.returns
returns g t c = rw c.at-2.ensures (body_open c.loop-at.invariant c.loop-at-test.false)
