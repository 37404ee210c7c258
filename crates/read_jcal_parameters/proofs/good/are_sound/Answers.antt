-- `read_jcal_parameters::good::are_sound` meets its contract.
use Rattle.read_jcal_parameters.specs.laws.Sound.{sounds}
use Rattle.read_jcal_parameters.proofs.good.are_sound.Goals as goal

pub returns-then-not-is_sound : goal.returns-then-not-is_sound
returns-then-not-is_sound c = search sounds

pub loop-m-preserved : goal.loop-m-preserved
loop-m-preserved c = search sounds

pub returns : goal.returns
returns c = search sounds
