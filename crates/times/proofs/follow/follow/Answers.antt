-- `times::follow::follow` meets its contract.
use Rattle.times.specs.laws.Followed.{following}
use Rattle.times.proofs.follow.follow.Goals as goal

pub loop-i-init : goal.loop-i-init
loop-i-init g c = search following

pub tallied-number-requires : goal.tallied-number-requires
tallied-number-requires g c = search following

pub loop-i-preserved : goal.loop-i-preserved
loop-i-preserved g c = search following

pub returns-then-not-passing : goal.returns-then-not-passing
returns-then-not-passing g c = search following

pub returns : goal.returns
returns g c = search following
