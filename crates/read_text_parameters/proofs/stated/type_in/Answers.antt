-- `read_text_parameters::type_in` meets its contract.
use Rattle.read_text_parameters.specs.laws.Stating.{value_single, value_several, value_none}
use Rattle.std.proofs.Common.{ap}
use Rattle.read_text_line.specs.Cursor.{there}
use Rattle.read_text_parameters.proofs.stated.type_in.Goals as goal

pub returns-in_default : goal.returns-in_default
returns-in_default g c = value_none _ g.met.E.Cuttable.cut c.param_value.ensures (ap there c.in_default.is)

pub returns-then-is_last : goal.returns-then-is_last
returns-then-is_last g c = value_single _ g.met.E.Cuttable.cut c.param_value.ensures (ap there c.in-Ok.is) c.is_last.ensures c.if-is_last.true c.type_of_word.ensures

pub returns : goal.returns
returns g c = value_several _ g.met.E.Cuttable.cut c.param_value.ensures (ap there c.in-Ok.is) c.is_last.ensures c.if-is_last.false
