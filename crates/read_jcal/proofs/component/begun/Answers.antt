-- `read_jcal::begun` meets its contract.
use Rattle.read_jcal.specs.laws.Components.{begins}
use Rattle.read_jcal.proofs.component.begun.Goals as goal

pub returns-then-not-is_array : goal.returns-then-not-is_array
returns-then-not-is_array c = search begins

pub returns : goal.returns
returns c = search begins
