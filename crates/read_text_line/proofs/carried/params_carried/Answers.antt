-- `read_text_line::carried::params_carried` meets its contract.
use Rattle.std.proofs.Common.{rules, ◌≡◌, ap, ◌∙◌, Ok, None}
use Rattle.read_text_line.specs.laws.Params.{param_less}
use Rattle.read_text_line.specs.laws.Carried.{carried_more, carried_stop, carried_over, carried_fault}
use Rattle.read_text_line.proofs.carried.params_carried.Goals as goal

pub returns-then-not-is_carried_name : goal.returns-then-not-is_carried_name
returns-then-not-is_carried_name g c = carried_stop c.loop-p.invariant c.next_param.ensures (c.in-Ok-Some.is ∙ ap Ok c.in-Ok-Some.field-0-is) c.is_carried_name.ensures c.if-not-is_carried_name.true

pub loop-p-smaller : goal.loop-p-smaller
loop-p-smaller g c = param_less c.next_param.ensures (c.in-Ok-Some.is ∙ ap Ok c.in-Ok-Some.field-0-is)

pub loop-p-preserved : goal.loop-p-preserved
loop-p-preserved g c = carried_more c.loop-p.invariant c.next_param.ensures (c.in-Ok-Some.is ∙ ap Ok c.in-Ok-Some.field-0-is) c.is_carried_name.ensures c.if-not-is_carried_name.false

pub returns-in_default : goal.returns-in_default
returns-in_default g c = let e : c.in_default.field-0 ≡ None = search rules in carried_over c.loop-p.invariant c.next_param.ensures (c.in_default.is ∙ ap Ok e)

pub returns-in_default-2 : goal.returns-in_default-2
returns-in_default-2 g c = carried_fault c.loop-p.invariant c.next_param.ensures c.in_default.is
