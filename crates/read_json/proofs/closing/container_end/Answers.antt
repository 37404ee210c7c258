-- `read_json::container_end` meets its contract.
use Rattle.read_json.specs.laws.Closing.{closing}
use Rattle.read_json.proofs.closing.container_end.Goals as goal

pub returns-in-Absent : goal.returns-in-Absent
returns-in-Absent c = search closing

pub loop-depth-preserved-in-Array : goal.loop-depth-preserved-in-Array
loop-depth-preserved-in-Array c = search closing

pub returns-then-depth-eq0 : goal.returns-then-depth-eq0
returns-then-depth-eq0 c = search closing

pub loop-depth-preserved-in-Close : goal.loop-depth-preserved-in-Close
loop-depth-preserved-in-Close c = search closing

pub loop-depth-preserved : goal.loop-depth-preserved
loop-depth-preserved c = search closing
