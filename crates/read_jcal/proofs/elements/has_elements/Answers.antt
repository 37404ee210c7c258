-- `read_jcal::has_elements` meets its contract.
use Rattle.read_jcal.specs.laws.Arrays.{arrays}
use Rattle.read_jcal.proofs.elements.has_elements.Goals as goal

pub returns : goal.returns
returns c = search arrays
