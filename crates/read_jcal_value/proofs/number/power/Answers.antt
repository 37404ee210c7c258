-- `read_jcal_value::power` meets its contract.
use borrow.Author.Rules.{rules}
use Rattle.read_jcal_value.specs.laws.Number.{power_is}
use Rattle.read_jcal_value.proofs.number.power.Goals as goal

pub offset_bounds-k : goal.offset_bounds-k
offset_bounds-k c = search (power_is, rules)

pub bounds-k : goal.bounds-k
bounds-k c = search (power_is, rules)

pub returns : goal.returns
returns c = search (power_is, rules)
