-- `read_jcal::array_entry` meets its contract.
use Rattle.read_jcal.specs.laws.Properties.{entering}
use Rattle.read_jcal.proofs.properties.array_entry.Goals as goal

pub returns-in-Ok : goal.returns-in-Ok
returns-in-Ok c = search entering

pub returns-in-Err : goal.returns-in-Err
returns-in-Err c = search entering
