-- `read_text_parameters::stated_type` meets its contract.
use Rattle.read_text_parameters.specs.laws.Stating.{stated_start, stated_more, stated_here, stated_over, stated_fault}
use Rattle.read_text_line.specs.laws.Params.{param_less}
use borrow.Author.Rules.{rules}
use Rattle.std.proofs.Common.{ap, ◌∙◌, ◌≡◌, Ok, None, rules}
use Rattle.read_text_parameters.proofs.stated.stated_type.Goals as goal

pub loop-a-init : goal.loop-a-init
loop-a-init g c = stated_start _ _ _ _ _

pub returns-then-is_value_name : goal.returns-then-is_value_name
returns-then-is_value_name g c = stated_here g.met.E.Cuttable.cut c.loop-a.invariant c.next_param.ensures (c.in-Ok-Some.is ∙ ap Ok c.in-Ok-Some.field-0-is) c.is_value_name.ensures c.if-is_value_name.true c.type_in.ensures

pub loop-a-smaller : goal.loop-a-smaller
loop-a-smaller g c = param_less c.next_param.ensures (c.in-Ok-Some.is ∙ ap Ok c.in-Ok-Some.field-0-is)

pub loop-a-preserved : goal.loop-a-preserved
loop-a-preserved g c = stated_more g.met.E.Cuttable.cut c.loop-a.invariant c.next_param.ensures (c.in-Ok-Some.is ∙ ap Ok c.in-Ok-Some.field-0-is) c.is_value_name.ensures c.if-is_value_name.false

pub returns-in_default : goal.returns-in_default
returns-in_default g c = let e : c.in_default.field-0 ≡ None = search rules in stated_over g.met.E.Cuttable.cut c.loop-a.invariant c.next_param.ensures (c.in_default.is ∙ ap Ok e)

pub returns-in_default-2 : goal.returns-in_default-2
returns-in_default-2 g c = stated_fault g.met.E.Cuttable.cut c.loop-a.invariant c.next_param.ensures c.in_default.is
