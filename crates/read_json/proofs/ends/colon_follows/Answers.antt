-- `read_json::colon_follows` meets its contract.
use Rattle.read_json.specs.laws.Ends.{spacing}
use Rattle.read_json.proofs.ends.colon_follows.Goals as goal

pub loop-i-preserved : goal.loop-i-preserved
loop-i-preserved c = search spacing

pub returns-else-white : goal.returns-else-white
returns-else-white c = search spacing

pub returns : goal.returns
returns c = search spacing
