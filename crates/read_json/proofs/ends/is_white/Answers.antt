-- `read_json::is_white` meets its contract.
use Rattle.octets.specs.laws.Pick.{branching}
use Rattle.read_json.proofs.ends.is_white.Goals as goal

pub returns-then-u-eq-SPACE : goal.returns-then-u-eq-SPACE
returns-then-u-eq-SPACE c = search branching

pub returns-then-u-eq-TAB : goal.returns-then-u-eq-TAB
returns-then-u-eq-TAB c = search branching

pub returns-then-u-eq-CR : goal.returns-then-u-eq-CR
returns-then-u-eq-CR c = search branching

pub returns : goal.returns
returns c = search branching
