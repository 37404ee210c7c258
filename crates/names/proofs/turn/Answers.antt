-- `names::turn` meets its contract.
use Rattle.names.specs.laws.Matching.{turning, turn_other, turn_same}
use Rattle.names.proofs.turn.Goals as goal

pub returns-in_err-word : goal.returns-in_err-word
returns-in_err-word g c = search turning

pub returns-then-cased_unit-wide : goal.returns-then-cased_unit-wide
returns-then-cased_unit-wide g c = turn_same c.in_ok-word.was c.unit-n.ensures c.cased_unit.ensures c.wide.ensures c.if-cased_unit-wide.true

pub returns : goal.returns
returns g c = turn_other c.in_ok-word.was c.unit-n.ensures c.cased_unit.ensures c.wide.ensures c.if-cased_unit-wide.false
