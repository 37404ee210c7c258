-- `read_jcal_parameters::apart::is_again` meets its contract.
use Rattle.read_jcal_parameters.specs.laws.Apart.{agains}
use Rattle.read_jcal_parameters.proofs.apart.is_again.Goals as goal

pub returns-then-compare-eq0 : goal.returns-then-compare-eq0
returns-then-compare-eq0 c = search agains

pub loop-m-preserved : goal.loop-m-preserved
loop-m-preserved c = search agains

pub returns : goal.returns
returns c = search agains
