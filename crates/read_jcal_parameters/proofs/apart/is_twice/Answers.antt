-- `read_jcal_parameters::apart::is_twice` meets its contract.
use Rattle.read_jcal_parameters.specs.laws.Apart.{twices}
use Rattle.read_jcal_parameters.proofs.apart.is_twice.Goals as goal

pub returns-then-m-p : goal.returns-then-m-p
returns-then-m-p c = search twices

pub loop-m-preserved : goal.loop-m-preserved
loop-m-preserved c = search twices
