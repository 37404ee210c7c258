-- `values::text::is_unknown` meets its contract.
use Rattle.values.specs.laws.ValueAt.{unknown_is}
use Rattle.values.proofs.text.is_unknown.Goals as goal

pub returns : goal.returns
returns g c = unknown_is _ _ c.read_unknown.ensures
