-- `read_xml_value::value::value_verdict` meets its contract.
use Rattle.read_xml_value.specs.laws.Values.{valuing}
use Rattle.read_xml_value.proofs.value.value_verdict.Goals as goal

pub returns-then-p-eq-GEO : goal.returns-then-p-eq-GEO
returns-then-p-eq-GEO c = search valuing

pub returns-then-p-eq-REQUEST_STATUS : goal.returns-then-p-eq-REQUEST_STATUS
returns-then-p-eq-REQUEST_STATUS c = search valuing

pub returns-in-Some : goal.returns-in-Some
returns-in-Some c = search valuing

pub returns-in-None : goal.returns-in-None
returns-in-None c = search valuing
