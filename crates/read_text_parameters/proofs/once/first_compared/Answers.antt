-- `read_text_parameters::first_compared` meets its contract.
use native.Mathlib.Omega.{arith}
use Rattle.read_text_line.specs.laws.Params.{param_less}
use Rattle.read_text_parameters.specs.laws.Collecting.{compared_start, compared_over, compared_fault, compared_less, compared_again, compared_more}
use borrow.Author.Rules.{rules}
use Rattle.std.proofs.Common.{ap, ◌∙◌, ◌≡◌, Ok, None, rules}
use Rattle.read_text_parameters.proofs.once.first_compared.Goals as goal

pub loop-a-init : goal.loop-a-init
loop-a-init g c = compared_start _ _ _

pub returns-then-stands_before : goal.returns-then-stands_before
returns-then-stands_before g c = compared_again g.met.E.Cuttable.cut c.loop-a.invariant c.next_param.ensures (c.in-Ok-Some.is ∙ ap Ok c.in-Ok-Some.field-0-is) c.stands_before.ensures c.if-stands_before.true

pub overflow_add-k : goal.overflow_add-k
overflow_add-k g c = let l = compared_less g.met.E.Cuttable.cut c.loop-a.invariant c.next_param.ensures (c.in-Ok-Some.is ∙ ap Ok c.in-Ok-Some.field-0-is) c.stands_before.ensures in let p = c.loop-a.invariant.past in let t = rw (c.in-Ok-Some.is ∙ ap Ok c.in-Ok-Some.field-0-is) at c.next_param.type_inv in omega (arith, l, p, t)

pub loop-a-smaller : goal.loop-a-smaller
loop-a-smaller g c = param_less c.next_param.ensures (c.in-Ok-Some.is ∙ ap Ok c.in-Ok-Some.field-0-is)

pub loop-a-preserved : goal.loop-a-preserved
loop-a-preserved g c = compared_more g.met.E.Cuttable.cut c.loop-a.invariant c.next_param.ensures (c.in-Ok-Some.is ∙ ap Ok c.in-Ok-Some.field-0-is) c.stands_before.ensures c.if-stands_before.false

pub returns-in_default : goal.returns-in_default
returns-in_default g c = let e : c.in_default.field-0 ≡ None = search rules in compared_over g.met.E.Cuttable.cut c.loop-a.invariant c.next_param.ensures (c.in_default.is ∙ ap Ok e)

pub returns-in_default-2 : goal.returns-in_default-2
returns-in_default-2 g c = compared_fault g.met.E.Cuttable.cut c.loop-a.invariant c.next_param.ensures c.in_default.is
