-- `read_jcal_value::is_whole` meets its contract.
use Rattle.octets.specs.laws.Pick.{branching}
use Rattle.read_jcal_value.proofs.rule.is_whole.Goals as goal

pub returns-after-holds-2 : goal.returns-after-holds-2
returns-after-holds-2 c = search branching

pub returns-else-holds : goal.returns-else-holds
returns-else-holds c = search branching
