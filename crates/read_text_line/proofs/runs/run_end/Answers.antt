-- `read_text_line::runs::run_end` meets its contract.
use Rattle.read_text_line.specs.laws.Cursor.{passing}
use Rattle.read_text_line.proofs.runs.run_end.Goals as goal

pub loop-c-init : goal.loop-c-init
loop-c-init g c = search passing

pub unit-n-requires : goal.unit-n-requires
unit-n-requires g c = search passing

pub is_in-part-requires : goal.is_in-part-requires
is_in-part-requires g c = search passing

pub loop-c-smaller : goal.loop-c-smaller
loop-c-smaller g c = search passing

pub loop-c-preserved : goal.loop-c-preserved
loop-c-preserved g c = search passing

pub returns-else-part : goal.returns-else-part
returns-else-part g c = search passing
