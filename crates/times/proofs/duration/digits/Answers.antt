-- `times::duration::digits` meets its contract.
use Rattle.times.specs.laws.DurationAt.{run_less, running}
use Rattle.octets.specs.laws.Pick.{flag_yes}
use Rattle.times.proofs.duration.digits.Goals as goal

pub loop-a-init : goal.loop-a-init
loop-a-init g c = search running

pub loop-a-smaller : goal.loop-a-smaller
loop-a-smaller g c = run_less c.letter-a.ensures (flag_yes _ _ c.is_digit.ensures c.if-not-is_digit.false)

pub loop-a-preserved : goal.loop-a-preserved
loop-a-preserved g c = search running

pub returns-then-any : goal.returns-then-any
returns-then-any g c = search running

pub returns-else-any : goal.returns-else-any
returns-else-any g c = search running
