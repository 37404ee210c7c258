-- `read_text_line::param::no_name` meets its contract.
use Rattle.read_text_line.specs.laws.Params.{no_name}
use Rattle.read_text_line.proofs.param.no_name.Goals as goal

pub returns : goal.returns
returns g c = no_name c.unit-n.ensures c.is_name_char.ensures
