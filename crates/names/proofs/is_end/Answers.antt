-- `names::is_end` meets its contract.
use mathlib.Core.Path.{sym}
use Rattle.names.specs.laws.Case.{empty_unit}
use Rattle.names.proofs.is_end.Goals as goal

pub returns-in-Some : goal.returns-in-Some
returns-in-Some g c = rw (c.in-Some.is, c.unit.ensures.is) (sym (empty_unit _ _))
