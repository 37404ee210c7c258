-- `read_xml::component::which_child` meets its contract.
use Rattle.read_xml.specs.laws.Components.{choosing}
use Rattle.read_xml.proofs.component.which_child.Goals as goal
use Rattle.read_xml.proofs.component.which_child.Goals.{else-is_part-2-via-then-is_part-2+else-has_subs, else-is_part-2-via-else-is_part-2}

pub returns-then-had : goal.returns-then-had
returns-then-had c = search choosing

pub returns-else-had : goal.returns-else-had
returns-else-had c = search choosing

pub returns-then-has_subs : goal.returns-then-has_subs
returns-then-has_subs c = search choosing

pub returns-else-is_part-2 : goal.returns-else-is_part-2
returns-else-is_part-2 c = elim c.else-is_part-2.branch [ else-is_part-2-via-then-is_part-2+else-has_subs w ↦ search choosing | else-is_part-2-via-else-is_part-2 w ↦ search choosing ]
