-- `read_text_line::value::values` meets its contract.
use Rattle.std.proofs.Common.{ap}
use Rattle.read_text_line.specs.Cursor.{there}
use Rattle.read_text_line.specs.laws.Values.{values_all, values_bad}
use Rattle.read_text_line.proofs.value.values.Goals as goal

pub returns-in_default : goal.returns-in_default
returns-in_default g c = values_bad c.param_value.ensures (ap there c.in_default.is)

pub returns : goal.returns
returns g c = values_all c.param_value.ensures (ap there c.in-Ok.is) c.next_values.ensures
