-- `read_xml::children::child` meets its contract.
use Rattle.read_xml.specs.laws.Turning.{child_good, child_bad, child_nowhere}
use Rattle.read_xml_nodes.specs.laws.Judging.{passed_on}
use Rattle.read_xml.proofs.children.child.Goals as goal

pub returns-in_default : goal.returns-in_default
returns-in_default c = child_nowhere _ _ _ _ _ _ _ c.child_after.ensures c.in_default.is c.unexpected.ensures

pub returns-in_err-child_inside : goal.returns-in_err-child_inside
returns-in_err-child_inside c = rw (passed_on _ _ c.from_residual.ensures.1) (child_bad _ _ _ _ _ _ _ c.child_after.ensures c.in-Some.is _ c.child_inside.ensures c.in_err-child_inside.was)

pub returns : goal.returns
returns c = child_good _ _ _ _ _ _ _ c.child_after.ensures c.in-Some.is _ c.child_inside.ensures c.in_ok-child_inside.was
