-- `read_xml_value::value::typed_verdict` meets its contract.
use Rattle.octets.specs.laws.Pick.{branching}
use Rattle.read_xml_value.proofs.value.typed_verdict.Goals as goal

pub returns-then-context-eq-PERIOD : goal.returns-then-context-eq-PERIOD
returns-then-context-eq-PERIOD c = search branching

pub returns-then-context-eq-RECUR : goal.returns-then-context-eq-RECUR
returns-then-context-eq-RECUR c = search branching

pub returns-else-context-eq-RECUR : goal.returns-else-context-eq-RECUR
returns-else-context-eq-RECUR c = search branching
