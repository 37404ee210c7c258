-- `read_json::word_end` meets its contract.
use Rattle.read_json.specs.laws.Ends.{wording}
use Rattle.read_json.proofs.ends.word_end.Goals as goal

pub loop-i-preserved : goal.loop-i-preserved
loop-i-preserved c = search wording

pub returns-else-is_scalar : goal.returns-else-is_scalar
returns-else-is_scalar c = search wording

pub returns-after-loop-i : goal.returns-after-loop-i
returns-after-loop-i c = search wording
