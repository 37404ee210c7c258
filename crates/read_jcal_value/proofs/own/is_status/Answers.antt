-- `read_jcal_value::is_status` meets its contract.
use Rattle.read_jcal_value.specs.laws.Typed.{status_three, statuses}
use Rattle.read_jcal_value.proofs.own.is_status.Goals as goal

pub returns-in_default : goal.returns-in_default
returns-in_default c = search statuses

pub returns-in_default-leaf_at : goal.returns-in_default-leaf_at
returns-in_default-leaf_at c = search statuses

pub returns-then-is_end : goal.returns-then-is_end
returns-then-is_end c = search statuses

pub returns-in_default-leaf_at-2 : goal.returns-in_default-leaf_at-2
returns-in_default-leaf_at-2 c = search statuses

pub returns : goal.returns
returns c = status_three c.in-Some.ensures c.in-Some-leaf_at.ensures c.is_end.ensures c.if-is_end.false c.in-Some-leaf_at-2.ensures c.is_end-2.ensures
