-- `read_text_parameters::are_later_values` meets its contract.
use Rattle.read_text_parameters.specs.laws.Readable.{later_go, later_halt}
use Rattle.read_text_parameters.specs.laws.Steps.{every_nil}
use Rattle.read_text_parameters.specs.Typing.{is_value_in}
use Rattle.read_text_parameters.specs.laws.Cutting.{values_over, values_fault}
use Rattle.read_text_line.specs.laws.Values.{value_less}
use Rattle.schema.specs.Numbers.{parameter_at}
use Rattle.octets.specs.Lists.{every}
use mathlib.Core.Path.{◌≡◌, refl, sym, ◌∙◌}
use borrow.Author.Rules.{rules}
use Rattle.std.proofs.Common.{ap, ◌∙◌, ◌≡◌, Ok, None, rules}
use Rattle.read_text_parameters.proofs.several.are_later_values.Goals as goal

pub loop-v-init : goal.loop-v-init
loop-v-init g c = refl

pub loop-v-smaller : goal.loop-v-smaller
loop-v-smaller g c = value_less c.next_value.ensures (c.in-Ok-Some.is ∙ ap Ok c.in-Ok-Some.field-0-is)

pub loop-v-preserved : goal.loop-v-preserved
loop-v-preserved g c = later_go g.met.E.Cuttable.cut (is_value_in c.args.edition (parameter_at c.args.q)) c.is_cut_value.ensures c.loop-v.invariant c.next_value.ensures (c.in-Ok-Some.is ∙ ap Ok c.in-Ok-Some.field-0-is) c.if-not-is_cut_value.false

pub returns-then-not-is_cut_value : goal.returns-then-not-is_cut_value
returns-then-not-is_cut_value g c = later_halt g.met.E.Cuttable.cut (is_value_in c.args.edition (parameter_at c.args.q)) c.is_cut_value.ensures c.loop-v.invariant c.next_value.ensures (c.in-Ok-Some.is ∙ ap Ok c.in-Ok-Some.field-0-is) c.if-not-is_cut_value.true

pub returns-in_default : goal.returns-in_default
returns-in_default g c = let p = is_value_in c.args.edition (parameter_at c.args.q) in let e : c.in_default.field-0 ≡ None = search rules in sym (values_over g.met.E.Cuttable.cut (every p) c.loop-v.invariant c.next_value.ensures (c.in_default.is ∙ ap Ok e) ∙ every_nil p)

pub returns-in_default-2 : goal.returns-in_default-2
returns-in_default-2 g c = let p = is_value_in c.args.edition (parameter_at c.args.q) in sym (values_fault g.met.E.Cuttable.cut (every p) c.loop-v.invariant c.next_value.ensures c.in_default.is ∙ every_nil p)
