-- `read_text_parameters::collect` meets its contract.
use mathlib.Core.Path.{◌≡◌, refl}
use native.Mathlib.Omega.{arith}
use Rattle.read_text_line.specs.laws.Params.{param_less}
use Rattle.distinct.specs.laws.Keeping.{keeps}
use Rattle.read_text_parameters.specs.laws.Collecting.{collect_start, collect_more, collect_fault, collect_over}
use borrow.Author.Rules.{rules}
use Rattle.std.proofs.Common.{ap, ◌∙◌, ◌≡◌, Ok, None, rules}
use Rattle.read_text_parameters.proofs.once.collect.Goals as goal

pub loop-a-init : goal.loop-a-init
loop-a-init g c = (collect_start _ _ _ _ _, refl, refl)

pub overflow_add-k : goal.overflow_add-k
overflow_add-k g c = omega (arith, (keeps c.keep.ensures c.if-not-keep.false).room)

pub loop-a-smaller : goal.loop-a-smaller
loop-a-smaller g c = param_less c.next_param.ensures (c.in-Ok-Some.is ∙ ap Ok c.in-Ok-Some.field-0-is)

pub loop-a-preserved : goal.loop-a-preserved
loop-a-preserved g c = (collect_more g.met.E.Cuttable.cut c.loop-a.invariant.0 c.next_param.ensures (c.in-Ok-Some.is ∙ ap Ok c.in-Ok-Some.field-0-is) (keeps c.keep.ensures c.if-not-keep.false), search rules, search rules)

pub returns-in_default : goal.returns-in_default
returns-in_default g c = let e : c.in_default.field-0 ≡ None = search rules in collect_over g.met.E.Cuttable.cut c.loop-a.invariant.0 c.next_param.ensures (c.in_default.is ∙ ap Ok e)

pub returns-in_default-2 : goal.returns-in_default-2
returns-in_default-2 g c = collect_fault g.met.E.Cuttable.cut c.loop-a.invariant.0 c.next_param.ensures c.in_default.is
