-- `names::cased_unit` meets its contract.
use Rattle.names.proofs.cased_unit.Goals as goal

pub returns-in-Kept : goal.returns-in-Kept
returns-in-Kept c = rw c.in-Kept.is

pub returns-in-Capital : goal.returns-in-Capital
returns-in-Capital c = rw c.in-Capital.is c.upper_unit.ensures

pub returns-in-Small : goal.returns-in-Small
returns-in-Small c = rw c.in-Small.is c.lower_unit.ensures
