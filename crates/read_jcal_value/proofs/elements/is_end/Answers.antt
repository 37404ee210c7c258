-- `read_jcal_value::is_end` meets its contract.
use Rattle.read_jcal_value.specs.laws.Elements.{ends}
use Rattle.read_jcal_value.proofs.elements.is_end.Goals as goal

pub returns : goal.returns
returns c = search ends
