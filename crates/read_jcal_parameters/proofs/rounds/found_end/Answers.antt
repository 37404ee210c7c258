-- `read_jcal_parameters::rounds::found_end` meets its contract.
use Rattle.read_jcal_parameters.specs.laws.Rounds.{founds}
use Rattle.read_jcal_parameters.proofs.rounds.found_end.Goals as goal

pub loop-m-init : goal.loop-m-init
loop-m-init c = search founds

pub loop-m-preserved : goal.loop-m-preserved
loop-m-preserved c = search founds
