-- `read_jcal::array_begun` meets its contract.
use Rattle.read_jcal.specs.laws.Components.{begins}
use Rattle.read_jcal.proofs.component.array_begun.Goals as goal

pub returns-in-Ok : goal.returns-in-Ok
returns-in-Ok c = search begins

pub returns-in-Err : goal.returns-in-Err
returns-in-Err c = search begins
