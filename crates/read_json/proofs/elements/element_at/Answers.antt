-- `read_json::element_at` meets its contract.
use Rattle.read_json.specs.laws.Heads.{seeking}
use Rattle.read_json.proofs.elements.element_at.Goals as goal

pub returns-in-Absent : goal.returns-in-Absent
returns-in-Absent c = search seeking

pub returns-in-Array : goal.returns-in-Array
returns-in-Array c = search seeking

pub returns-in-Object : goal.returns-in-Object
returns-in-Object c = search seeking

pub loop-c-preserved : goal.loop-c-preserved
loop-c-preserved c = search seeking

pub returns-in-String : goal.returns-in-String
returns-in-String c = search seeking

pub returns-in-Number : goal.returns-in-Number
returns-in-Number c = search seeking

pub returns-in-Literal : goal.returns-in-Literal
returns-in-Literal c = search seeking
