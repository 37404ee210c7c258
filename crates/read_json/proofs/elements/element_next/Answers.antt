-- `read_json::element_next` meets its contract.
use Rattle.read_json.specs.laws.Heads.{next_found}
use Rattle.read_json.proofs.elements.element_next.Goals as goal

pub returns-in-Absent : goal.returns-in-Absent
returns-in-Absent c = search next_found
