-- `names::is_cased` meets its contract.
use native.Mathlib.Omega.{arith}
use mathlib.Core.Path.{sym}
use Rattle.names.specs.laws.Case.{empty_unit}
use Rattle.names.specs.laws.Runs.{comparing_more, comparing_stop, comparing_end}
use Rattle.names.proofs.is_cased.Goals as goal

pub returns-then-cased_unit-wide : goal.returns-then-cased_unit-wide
returns-then-cased_unit-wide g c = comparing_stop c.loop-i.invariant (omega arith) c.unit-n.ensures c.cased_unit.ensures c.wide.ensures c.if-cased_unit-wide.true

pub loop-i-preserved : goal.loop-i-preserved
loop-i-preserved g c = comparing_more c.loop-i.invariant (omega arith) c.unit-n.ensures c.cased_unit.ensures c.wide.ensures c.if-cased_unit-wide.false

pub returns : goal.returns
returns g c = comparing_end c.loop-i.invariant (omega arith) (rw c.unit.ensures.is (sym (empty_unit _ _)))
