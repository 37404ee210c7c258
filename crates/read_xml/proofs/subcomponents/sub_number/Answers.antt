-- `read_xml::subcomponents::sub_number` meets its contract.
use Rattle.read_xml.specs.laws.Subcomponents.{numbering}
use Rattle.read_xml.proofs.subcomponents.sub_number.Goals as goal
use Rattle.read_xml.proofs.subcomponents.sub_number.Goals.{else-may_begin-via-then-may_begin+else-left-gt0, else-may_begin-via-else-may_begin}

pub returns-then-bad_component : goal.returns-then-bad_component
returns-then-bad_component c = search numbering

pub returns-then-left-gt0 : goal.returns-then-left-gt0
returns-then-left-gt0 c = search numbering

pub returns-else-may_begin : goal.returns-else-may_begin
returns-else-may_begin c = elim c.else-may_begin.branch [ else-may_begin-via-then-may_begin+else-left-gt0 w ↦ search numbering | else-may_begin-via-else-may_begin w ↦ search numbering ]
