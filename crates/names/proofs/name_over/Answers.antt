-- `names::name_over` meets its contract.
use Rattle.names.specs.laws.Matching.{passing}
use Rattle.names.proofs.name_over.Goals as goal

pub loop-i-init : goal.loop-i-init
loop-i-init c = search passing

pub returns-then-table-i-eq10 : goal.returns-then-table-i-eq10
returns-then-table-i-eq10 c = search passing

pub loop-i-smaller : goal.loop-i-smaller
loop-i-smaller c = search passing

pub loop-i-preserved : goal.loop-i-preserved
loop-i-preserved c = search passing

pub returns : goal.returns
returns c = search passing
