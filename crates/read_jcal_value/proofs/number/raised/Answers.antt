-- `read_jcal_value::raised` meets its contract.
use Rattle.read_jcal_value.specs.laws.Number.{raising}
use Rattle.read_jcal_value.proofs.number.raised.Goals as goal

pub returns-then-v-eq0 : goal.returns-then-v-eq0
returns-then-v-eq0 c = search raising

pub power-p-requires : goal.power-p-requires
power-p-requires c = search raising

pub overflow_mul-result : goal.overflow_mul-result
overflow_mul-result c = search raising

pub returns-then-k-lt10 : goal.returns-then-k-lt10
returns-then-k-lt10 c = search raising

pub returns : goal.returns
returns c = search raising
