-- `read_json::string_end` meets its contract.
use Rattle.read_json.specs.laws.Ends.{ending}
use Rattle.read_json.proofs.ends.string_end.Goals as goal

pub returns-then-c-eq-END : goal.returns-then-c-eq-END
returns-then-c-eq-END c = search ending

pub loop-i-preserved : goal.loop-i-preserved
loop-i-preserved c = search ending

pub returns : goal.returns
returns c = search ending
