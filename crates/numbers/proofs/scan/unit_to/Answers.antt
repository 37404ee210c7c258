-- `numbers::scan::unit_to` meets its contract.
use native.Mathlib.Omega.{arith}
use Rattle.numbers.specs.laws.Until.{turn_on, turn_stop}
use Rattle.numbers.proofs.scan.unit_to.Goals as goal

pub returns-then-t-stop : goal.returns-then-t-stop
returns-then-t-stop g c = turn_stop _ c.unit-t.ensures c.if-t-stop.true (omega arith) (omega arith)

pub returns : goal.returns
returns g c = turn_on _ c.unit-t.ensures c.if-t-stop.false
