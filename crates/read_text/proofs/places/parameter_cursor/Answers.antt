-- `read_text::parameter_cursor` meets its contract.
use Rattle.read_text.specs.laws.Places.{passing_start, passing_more, passing_end, passing_over, passing_fault}
use borrow.Author.Rules.{rules}
use Rattle.std.proofs.Common.{ap, ◌∙◌, ◌≡◌, Ok, None, rules}
use Rattle.read_text.proofs.places.parameter_cursor.Goals as goal

pub loop-left-init : goal.loop-left-init
loop-left-init g c = λ h. passing_start _ _ _ _ h

pub loop-left-preserved : goal.loop-left-preserved
loop-left-preserved g c = λ h. passing_more (c.loop-left.invariant h) c.next_param.ensures (c.in-Ok-Some.is ∙ ap Ok c.in-Ok-Some.field-0-is) c.loop-left-test.true

pub returns-in_default : goal.returns-in_default
returns-in_default g c = λ h. let e : c.in_default.field-0 ≡ None = search rules in passing_over (c.loop-left.invariant h) c.next_param.ensures (c.in_default.is ∙ ap Ok e)

pub returns-in_default-2 : goal.returns-in_default-2
returns-in_default-2 g c = λ h. passing_fault (c.loop-left.invariant h) c.next_param.ensures c.in_default.is

pub returns : goal.returns
returns g c = λ h. passing_end (c.loop-left.invariant h) c.loop-left-test.false c.unit-n.ensures
