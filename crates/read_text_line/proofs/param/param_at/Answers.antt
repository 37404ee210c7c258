-- `read_text_line::param::param_at` meets its contract.
use Rattle.read_text_line.specs.laws.Params.{param_unnamed, param_named}
use Rattle.read_text_line.proofs.param.param_at.Goals as goal

pub returns-then-no_name : goal.returns-then-no_name
returns-then-no_name g c = param_unnamed c.no_name.ensures c.if-no_name.true c.bad_param.ensures

pub returns : goal.returns
returns g c = param_named c.no_name.ensures c.if-no_name.false c.named_param.ensures
