-- `read_text_parameters::read_parameters` meets its contract.
use native.Mathlib.Omega.{arith}
use Rattle.read_text_line.specs.laws.Params.{param_less}
use Rattle.read_text_parameters.specs.laws.Walking.{number_fits, step_start, step_over, step_fault, step_again, step_bad, step_room, step_more}
use borrow.Author.Rules.{rules}
use Rattle.std.proofs.Common.{ap, ◌∙◌, ◌≡◌, Ok, None, rules}
use Rattle.read_text_parameters.proofs.walk.read_parameters.Goals as goal
use Rattle.read_text_parameters.proofs.walk.read_parameters.Goals.{in_default, in_default-2}

pub loop-a-init : goal.loop-a-init
loop-a-init g c = step_start _ _ _ _ _

pub returns-then-is_again : goal.returns-then-is_again
returns-then-is_again g c = step_again g.met.E.Cuttable.cut c.loop-a.invariant c.next_param.ensures (c.in-Ok-Some.is ∙ ap Ok c.in-Ok-Some.field-0-is) c.number_at-q.ensures c.sought-m.ensures c.is_again.ensures c.if-is_again.true

pub returns-in_default-type_behind : goal.returns-in_default-type_behind
returns-in_default-type_behind g c = step_bad g.met.E.Cuttable.cut c.loop-a.invariant c.next_param.ensures (c.in-Ok-Some.is ∙ ap Ok c.in-Ok-Some.field-0-is) c.number_at-q.ensures c.sought-m.ensures c.is_again.ensures c.type_behind.ensures c.in_default-type_behind.is

pub added-n-requires : goal.added-n-requires
added-n-requires g c = (number_fits _ c.number_at-q.ensures, step_room g.met.E.Cuttable.cut c.loop-a.invariant c.next_param.ensures (c.in-Ok-Some.is ∙ ap Ok c.in-Ok-Some.field-0-is) c.number_at-q.ensures c.sought-m.ensures c.is_again.ensures c.type_behind.ensures (let t = rw (c.in-Ok-Some.is ∙ ap Ok c.in-Ok-Some.field-0-is) at c.next_param.type_inv in omega (arith, t)))

pub loop-a-smaller : goal.loop-a-smaller
loop-a-smaller g c = param_less c.next_param.ensures (c.in-Ok-Some.is ∙ ap Ok c.in-Ok-Some.field-0-is)

pub loop-a-preserved : goal.loop-a-preserved
loop-a-preserved g c = step_more g.met.E.Cuttable.cut c.loop-a.invariant c.next_param.ensures (c.in-Ok-Some.is ∙ ap Ok c.in-Ok-Some.field-0-is) c.number_at-q.ensures c.sought-m.ensures c.is_again.ensures c.type_behind.ensures c.if-is_again.false c.in-Some.is c.added-n.ensures

pub returns : goal.returns
returns g c = elim c.match-next_param.branch [ in_default w ↦ let e : w.in_default.field-0 ≡ None = search rules in step_over g.met.E.Cuttable.cut c.loop-a.invariant c.next_param.ensures (w.in_default.is ∙ ap Ok e) c.ended.ensures | in_default-2 w ↦ step_fault g.met.E.Cuttable.cut c.loop-a.invariant c.next_param.ensures w.in_default.is c.ended.ensures ]
