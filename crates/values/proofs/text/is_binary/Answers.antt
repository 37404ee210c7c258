-- `values::text::is_binary` meets its contract.
use Rattle.values.specs.laws.ValueAt.{binary_is}
use Rattle.values.proofs.text.is_binary.Goals as goal

pub returns : goal.returns
returns g c = binary_is _ _ c.read_binary.ensures
