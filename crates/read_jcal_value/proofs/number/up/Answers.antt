-- `read_jcal_value::up` meets its contract.
use Rattle.read_jcal_value.specs.laws.Number.{counting}
use Rattle.read_jcal_value.proofs.number.up.Goals as goal

pub returns-then-down : goal.returns-then-down
returns-then-down c = search counting

pub returns-then-x-behind : goal.returns-then-x-behind
returns-then-x-behind c = search counting

pub returns : goal.returns
returns c = search counting
