-- `read_jcal_value::kept` meets its contract.
use Rattle.read_jcal_value.specs.laws.Number.{counting}
use Rattle.read_jcal_value.proofs.number.kept.Goals as goal

pub returns-then-before-x : goal.returns-then-before-x
returns-then-before-x c = search counting

pub returns-then-down : goal.returns-then-down
returns-then-down c = search counting

pub smaller-requires : goal.smaller-requires
smaller-requires c = search counting

pub overflow_add-result : goal.overflow_add-result
overflow_add-result c = search counting

pub returns : goal.returns
returns c = search counting
