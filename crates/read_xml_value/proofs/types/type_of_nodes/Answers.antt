-- `read_xml_value::type_of_nodes` meets its contract.
use borrow.Author.Rules.{rules}
use Rattle.read_xml_value.specs.laws.ElementTypes.{of_geo, of_status, of_first}
use Rattle.read_xml_value.proofs.types.type_of_nodes.Goals as goal

pub returns-then-p-eq-GEO : goal.returns-then-p-eq-GEO
returns-then-p-eq-GEO c = of_geo _ _ c.if-p-eq-GEO.true

pub returns-then-p-eq-REQUEST_STATUS : goal.returns-then-p-eq-REQUEST_STATUS
returns-then-p-eq-REQUEST_STATUS c = of_status _ _ c.if-p-eq-REQUEST_STATUS.true

pub returns : goal.returns
returns c = of_first _ _ c.if-p-eq-GEO.false c.if-p-eq-REQUEST_STATUS.false c.first_type.ensures
