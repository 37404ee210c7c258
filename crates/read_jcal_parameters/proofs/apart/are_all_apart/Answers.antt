-- `read_jcal_parameters::apart::are_all_apart` meets its contract.
use Rattle.read_jcal_parameters.specs.laws.Apart.{aparts}
use Rattle.read_jcal_parameters.proofs.apart.are_all_apart.Goals as goal

pub returns-then-is_again : goal.returns-then-is_again
returns-then-is_again c = search aparts

pub loop-m-preserved : goal.loop-m-preserved
loop-m-preserved c = search aparts

pub returns : goal.returns
returns c = search aparts
