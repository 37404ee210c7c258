-- `read_text_parameters::are_read` meets its contract.
use Rattle.read_text_parameters.specs.laws.Steps.{every_nil, every_go, every_halt}
use Rattle.read_text_parameters.specs.Readable.{is_readable}
use Rattle.read_text_parameters.specs.laws.Readable.{all_read}
use Rattle.read_text_parameters.specs.laws.Cutting.{read_step, read_over, read_fault}
use Rattle.read_text_line.specs.laws.Params.{param_less}
use Rattle.octets.specs.Lists.{every}
use mathlib.Core.Path.{◌≡◌, sym, ◌∙◌}
use borrow.Author.Rules.{rules}
use Rattle.std.proofs.Common.{ap, ◌∙◌, ◌≡◌, Ok, None, rules}
use Rattle.read_text_parameters.proofs.read.are_read.Goals as goal

pub loop-a-init : goal.loop-a-init
loop-a-init g c = all_read _

pub loop-a-smaller : goal.loop-a-smaller
loop-a-smaller g c = param_less c.next_param.ensures (c.in-Ok-Some.is ∙ ap Ok c.in-Ok-Some.field-0-is)

pub loop-a-preserved : goal.loop-a-preserved
loop-a-preserved g c = read_step _ g.met.E.Cuttable.cut (every is_readable) c.loop-a.invariant c.next_param.ensures (c.in-Ok-Some.is ∙ ap Ok c.in-Ok-Some.field-0-is) ∙ every_go is_readable _ _ c.is_readable.ensures c.if-not-is_readable.false

pub returns-then-not-is_readable : goal.returns-then-not-is_readable
returns-then-not-is_readable g c = sym (read_step _ g.met.E.Cuttable.cut (every is_readable) c.loop-a.invariant c.next_param.ensures (c.in-Ok-Some.is ∙ ap Ok c.in-Ok-Some.field-0-is) ∙ every_halt is_readable _ _ c.is_readable.ensures c.if-not-is_readable.true)

pub returns-in_default : goal.returns-in_default
returns-in_default g c = let e : c.in_default.field-0 ≡ None = search rules in sym (read_over _ g.met.E.Cuttable.cut (every is_readable) c.loop-a.invariant c.next_param.ensures (c.in_default.is ∙ ap Ok e) ∙ every_nil is_readable)

pub returns-in_default-2 : goal.returns-in_default-2
returns-in_default-2 g c = sym (read_fault _ g.met.E.Cuttable.cut (every is_readable) c.loop-a.invariant c.next_param.ensures c.in_default.is ∙ every_nil is_readable)
