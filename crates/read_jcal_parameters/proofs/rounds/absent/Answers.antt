-- `read_jcal_parameters::rounds::absent` meets its contract.
use Rattle.read_jcal_parameters.specs.laws.Rounds.{missings}
use Rattle.read_jcal_parameters.proofs.rounds.absent.Goals as goal

pub loop-m-preserved : goal.loop-m-preserved
loop-m-preserved c = search missings

pub returns : goal.returns
returns c = search missings
