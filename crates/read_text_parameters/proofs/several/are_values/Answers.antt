-- `read_text_parameters::are_values` meets its contract.
use Rattle.read_text_parameters.specs.laws.Readable.{first_go, first_halt}
use Rattle.read_text_parameters.specs.laws.Steps.{every_nil}
use Rattle.read_text_parameters.specs.Typing.{is_value_in}
use Rattle.read_text_parameters.specs.laws.Cutting.{values_none}
use Rattle.schema.specs.Numbers.{parameter_at}
use Rattle.octets.specs.Lists.{every}
use mathlib.Core.Path.{sym, ap, ◌∙◌}
use Rattle.std.proofs.Common.{ap, ◌∙◌}
use Rattle.read_text_line.specs.Cursor.{there}
use Rattle.read_text_parameters.proofs.several.are_values.Goals as goal

pub returns-in_default : goal.returns-in_default
returns-in_default g c = let p = is_value_in c.args.edition (parameter_at c.args.q) in sym (ap (every p) (values_none g.met.E.Cuttable.cut c.param_value.ensures (ap there c.in_default.is)) ∙ every_nil p)

pub returns-then-is_cut_value : goal.returns-then-is_cut_value
returns-then-is_cut_value g c = first_go g.met.E.Cuttable.cut (is_value_in c.args.edition (parameter_at c.args.q)) c.is_cut_value.ensures c.param_value.ensures (ap there c.in-Ok.is) c.if-is_cut_value.true c.are_later_values.ensures

pub returns-else-is_cut_value : goal.returns-else-is_cut_value
returns-else-is_cut_value g c = c.if-is_cut_value.false ∙ first_halt g.met.E.Cuttable.cut (is_value_in c.args.edition (parameter_at c.args.q)) c.is_cut_value.ensures c.param_value.ensures (ap there c.in-Ok.is) c.if-is_cut_value.false
