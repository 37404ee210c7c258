-- `read_jcal_parameters::good::parameters_good` meets its contract.
use Rattle.read_jcal_parameters.specs.laws.Sound.{good_members}
use Rattle.read_jcal_parameters.proofs.good.parameters_good.Goals as goal

pub returns : goal.returns
returns c = good_members _ _ _ _ _ c.are_good_by.ensures
