-- `write_xml_parameters::line::is_bare` meets its contract.
use Rattle.std.proofs.Common.{refl, rules, ◌≡◌, ◌∙◌, ap, None, Ok}
use Rattle.read_text_line.specs.laws.Params.{param_less}
use Rattle.write_xml_parameters.specs.laws.Walk.{only_more, only_stop, only_over, only_fault}
use Rattle.sink.specs.laws.Sink.{writing}
use Rattle.write_xml_parameters.proofs.line.is_bare.Goals as goal

pub loop-p-init : goal.loop-p-init
loop-p-init g c = refl

pub next_param-requires : goal.next_param-requires
next_param-requires g c = let cut = g.met.E.Cuttable.cut in search writing

pub is_value_name-requires : goal.is_value_name-requires
is_value_name-requires g c = let cut = g.met.E.Cuttable.cut in search writing

pub loop-p-smaller : goal.loop-p-smaller
loop-p-smaller g c = param_less c.next_param.ensures (c.in-Ok-Some.is ∙ ap Ok c.in-Ok-Some.field-0-is)

pub loop-p-preserved : goal.loop-p-preserved
loop-p-preserved g c = only_more g.met.E.Cuttable.cut c.loop-p.invariant c.next_param.ensures (c.in-Ok-Some.is ∙ ap Ok c.in-Ok-Some.field-0-is) c.is_value_name.ensures c.if-not-is_value_name.false

pub returns-then-not-is_value_name : goal.returns-then-not-is_value_name
returns-then-not-is_value_name g c = only_stop g.met.E.Cuttable.cut c.loop-p.invariant c.next_param.ensures (c.in-Ok-Some.is ∙ ap Ok c.in-Ok-Some.field-0-is) c.is_value_name.ensures c.if-not-is_value_name.true

pub returns-in_default : goal.returns-in_default
returns-in_default g c = let e : c.in_default.field-0 ≡ None = search rules in only_over g.met.E.Cuttable.cut c.loop-p.invariant c.next_param.ensures (c.in_default.is ∙ ap Ok e)

pub returns-in_default-2 : goal.returns-in_default-2
returns-in_default-2 g c = only_fault g.met.E.Cuttable.cut c.loop-p.invariant c.next_param.ensures c.in_default.is
