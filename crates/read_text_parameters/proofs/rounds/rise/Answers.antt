-- `read_text_parameters::rise` meets its contract. Assumes nothing.
use native.Mathlib.Omega.{arith}
use Rattle.distinct.specs.laws.Rising.{rising_start, rising_more, rising_fewer}
use Rattle.read_text_parameters.proofs.rounds.rise.Goals as goal

pub loop-i-init : goal.loop-i-init
loop-i-init g c = (rising_start, omega arith)

pub loop-i-preserved : goal.loop-i-preserved
loop-i-preserved g c = (rising_more c.loop-i.i c.loop-i.invariant.0 c.place_at-p.ensures c.place_at-q.ensures c.compare_names-k.ensures c.if-k-eq1.true, omega arith)

pub returns-else-k-eq1 : goal.returns-else-k-eq1
returns-else-k-eq1 g c = c.loop-i.invariant.0

pub returns : goal.returns
returns g c = rising_fewer c.loop-i.invariant.0 (omega arith)
