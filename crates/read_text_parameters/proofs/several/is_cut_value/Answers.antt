-- `read_text_parameters::is_cut_value` meets its contract.
use Rattle.read_text_parameters.specs.Typing.{is_value_by}
use Rattle.read_text_parameters.specs.laws.Cutting.{cut_at}
use Rattle.schema.specs.Numbers.{parameter_at}
use mathlib.Core.Path.{ap, ◌∙◌}
use lib.ListN.{take, length-take}
use native.Mathlib.Omega.{arith}
use Rattle.source.specs.Source.{over}
use Rattle.source.specs.laws.Facts.{decodes_same, decodes_over, decodes_when}
use Rattle.read_text_parameters.proofs.several.is_cut_value.Goals as goal

pub slice_bounds-is_value_at-end : goal.slice_bounds-is_value_at-end
slice_bounds-is_value_at-end g c = simp length-take (omega arith)

pub slice_bounds-is_value_at-end-in-Rfc6868 : goal.slice_bounds-is_value_at-end-in-Rfc6868
slice_bounds-is_value_at-end-in-Rfc6868 g c = simp length-take (omega arith)

pub returns-in-Rfc5545 : goal.returns-in-Rfc5545
returns-in-Rfc5545 g c =
    cut_at (λ l. is_value_by (parameter_at c.args.q) (record { quoted = c.args.quoted; chars = l })) g.E.Encoding.encoding c.args.s.now c.args.from c.args.to c.smaller-e.ensures c.is_value_at.ensures
    ∙ ap (λ l. is_value_by (parameter_at c.args.q) (record { quoted = c.args.quoted; chars = l })) ((decodes_when c.in-Rfc5545.is (decodes_same _)).is (take c.args.to c.args.s.now) c.args.from)

pub returns-in-Rfc6868 : goal.returns-in-Rfc6868
returns-in-Rfc6868 g c =
    cut_at (λ l. is_value_by (parameter_at c.args.q) (record { quoted = c.args.quoted; chars = l })) (over g.E.Encoding.encoding) c.args.s.now c.args.from c.args.to c.smaller-e.ensures c.is_value_at-in-Rfc6868.ensures
    ∙ ap (λ l. is_value_by (parameter_at c.args.q) (record { quoted = c.args.quoted; chars = l })) ((decodes_when c.in-Rfc6868.is (decodes_over _ g.met.E.Cuttable.cut)).is (take c.args.to c.args.s.now) c.args.from)
