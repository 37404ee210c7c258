-- `write_jcal_parameters::line::put_each` meets its contract.
use Rattle.std.proofs.Common.{rules, ◌≡◌, ◌∙◌, ap, None, Ok}
use Rattle.read_text_line.specs.laws.Params.{param_less}
use Rattle.write_json.specs.laws.Separated.{listing_start}
use Rattle.write_jcal_parameters.specs.laws.Walk.{value_passed, param_written, params_over, params_fault}
use Rattle.sink.specs.laws.Sink.{writing}
use Rattle.write_jcal_parameters.proofs.line.put_each.Goals as goal

pub loop-p-init : goal.loop-p-init
loop-p-init g c = let cut = g.met.E.Cuttable.cut in search (listing_start, writing)

pub next_param-requires : goal.next_param-requires
next_param-requires g c = let cut = g.met.E.Cuttable.cut in search writing

pub is_value_name-requires : goal.is_value_name-requires
is_value_name-requires g c = let cut = g.met.E.Cuttable.cut in search writing

pub loop-p-smaller-then-is_value_name : goal.loop-p-smaller-then-is_value_name
loop-p-smaller-then-is_value_name g c = param_less c.next_param.ensures (c.in-Ok-Some.is ∙ ap Ok c.in-Ok-Some.field-0-is)

pub loop-p-preserved-then-is_value_name : goal.loop-p-preserved-then-is_value_name
loop-p-preserved-then-is_value_name g c = value_passed _ g.met.E.Cuttable.cut c.loop-p.invariant c.next_param.ensures (c.in-Ok-Some.is ∙ ap Ok c.in-Ok-Some.field-0-is) c.is_value_name.ensures c.if-is_value_name.true

pub put_member-q-requires : goal.put_member-q-requires
put_member-q-requires g c = let cut = g.met.E.Cuttable.cut in search writing

pub loop-p-smaller : goal.loop-p-smaller
loop-p-smaller g c = param_less c.next_param.ensures (c.in-Ok-Some.is ∙ ap Ok c.in-Ok-Some.field-0-is)

pub loop-p-preserved : goal.loop-p-preserved
loop-p-preserved g c = param_written _ g.met.E.Cuttable.cut c.loop-p.invariant c.next_param.ensures (c.in-Ok-Some.is ∙ ap Ok c.in-Ok-Some.field-0-is) c.is_value_name.ensures c.if-is_value_name.false c.put_member-q.ensures

pub returns-in_default : goal.returns-in_default
returns-in_default g c = let e : c.in_default.field-0 ≡ None = search rules in params_over _ g.met.E.Cuttable.cut c.loop-p.invariant c.next_param.ensures (c.in_default.is ∙ ap Ok e)

pub returns-in_default-2 : goal.returns-in_default-2
returns-in_default-2 g c = params_fault _ g.met.E.Cuttable.cut c.loop-p.invariant c.next_param.ensures c.in_default.is
