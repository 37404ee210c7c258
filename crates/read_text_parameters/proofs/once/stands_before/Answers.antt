-- `read_text_parameters::stands_before` meets its contract.
use mathlib.Core.Path.{◌≡◌, refl, sym, ◌∙◌}
use mathlib.Core.List.{List}
use lib.ListN.{take}
use Rattle.octets.specs.Words.{is_one_of}
use Rattle.read_text_line.specs.ContentLine.{RawParameter}
use Rattle.read_text_parameters.specs.Cutting.{name_cut}
use Rattle.read_text_parameters.specs.Comparing.{names_of}
use Rattle.read_text_parameters.specs.laws.Cutting.{params_step, params_over, params_fault}
use Rattle.read_text_parameters.specs.laws.Before.{first_over, first_zero, first_go, first_halt}
use borrow.Author.Rules.{rules}
use Rattle.std.proofs.Common.{ap, ◌∙◌, ◌≡◌, Ok, None, rules}
use Rattle.read_text_parameters.proofs.once.stands_before.Goals as goal

pub loop-left-init : goal.loop-left-init
loop-left-init g c = refl

pub returns-then-same_names : goal.returns-then-same_names
returns-then-same_names g c = sym (params_step g.met.E.Cuttable.cut (λ (rs : List RawParameter). is_one_of (name_cut g.E.Encoding.encoding c.args.s.now c.args.name c.args.end) (take c.loop-left.left (names_of rs))) c.loop-left.invariant c.next_param.ensures (c.in-Ok-Some.is ∙ ap Ok c.in-Ok-Some.field-0-is) ∙ first_halt _ _ _ _ c.loop-left-test.true c.same_names.ensures c.if-same_names.true)

pub loop-left-preserved : goal.loop-left-preserved
loop-left-preserved g c = params_step g.met.E.Cuttable.cut (λ (rs : List RawParameter). is_one_of (name_cut g.E.Encoding.encoding c.args.s.now c.args.name c.args.end) (take c.loop-left.left (names_of rs))) c.loop-left.invariant c.next_param.ensures (c.in-Ok-Some.is ∙ ap Ok c.in-Ok-Some.field-0-is) ∙ first_go _ _ _ _ c.loop-left-test.true c.same_names.ensures c.if-same_names.false

pub returns-in_default : goal.returns-in_default
returns-in_default g c = let e : c.in_default.field-0 ≡ None = search rules in sym (params_over g.met.E.Cuttable.cut (λ (rs : List RawParameter). is_one_of (name_cut g.E.Encoding.encoding c.args.s.now c.args.name c.args.end) (take c.loop-left.left (names_of rs))) c.loop-left.invariant c.next_param.ensures (c.in_default.is ∙ ap Ok e) ∙ first_over (name_cut g.E.Encoding.encoding c.args.s.now c.args.name c.args.end) c.loop-left.left)

pub returns-in_default-2 : goal.returns-in_default-2
returns-in_default-2 g c = sym (params_fault g.met.E.Cuttable.cut (λ (rs : List RawParameter). is_one_of (name_cut g.E.Encoding.encoding c.args.s.now c.args.name c.args.end) (take c.loop-left.left (names_of rs))) c.loop-left.invariant c.next_param.ensures c.in_default.is ∙ first_over (name_cut g.E.Encoding.encoding c.args.s.now c.args.name c.args.end) c.loop-left.left)

pub returns : goal.returns
returns g c = sym (c.loop-left.invariant ∙ first_zero _ _ _ c.loop-left-test.false)
