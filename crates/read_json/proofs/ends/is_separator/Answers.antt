-- `read_json::is_separator` meets its contract.
use Rattle.octets.specs.laws.Pick.{branching}
use Rattle.read_json.proofs.ends.is_separator.Goals as goal

pub returns-then-is_white : goal.returns-then-is_white
returns-then-is_white c = search branching

pub returns-then-u-eq-COLON : goal.returns-then-u-eq-COLON
returns-then-u-eq-COLON c = search branching

pub returns : goal.returns
returns c = search branching
