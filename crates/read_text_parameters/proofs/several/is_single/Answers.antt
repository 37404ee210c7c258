-- `read_text_parameters::is_single` meets its contract.
use Rattle.read_text_parameters.specs.laws.Readable.{single_first, single_none}
use Rattle.std.proofs.Common.{ap}
use Rattle.read_text_line.specs.Cursor.{there}
use Rattle.read_text_parameters.proofs.several.is_single.Goals as goal

pub returns-in_default : goal.returns-in_default
returns-in_default g c = single_none g.met.E.Cuttable.cut c.param_value.ensures (ap there c.in_default.is)

pub returns : goal.returns
returns g c = single_first g.met.E.Cuttable.cut c.param_value.ensures (ap there c.in-Ok.is) c.is_last.ensures
