-- `read_xml_value::turns::child` meets its contract.
use Rattle.read_xml_nodes.specs.laws.Judging.{passed_on}
use Rattle.read_xml_value.specs.laws.Turning.{turning, child_good, child_bad}
use Rattle.read_xml_value.proofs.turns.child.Goals as goal

pub returns-in_default : goal.returns-in_default
returns-in_default c = search turning

pub returns-in_err-part_inside : goal.returns-in_err-part_inside
returns-in_err-part_inside c = rw (passed_on _ _ c.from_residual.ensures.1) (child_bad _ _ _ _ _ c.part_after.ensures c.in-Some.is _ c.part_inside.ensures c.in_err-part_inside.was)

pub returns : goal.returns
returns c = child_good _ _ _ _ _ c.part_after.ensures c.in-Some.is _ c.part_inside.ensures c.in_ok-part_inside.was
