-- `read_jcal::has_bad_names` meets its contract.
use Rattle.octets.specs.laws.Pick.{branching}
use Rattle.read_jcal.specs.laws.BadNames.{inside_first}
use borrow.Author.Rules.{rules}
use Rattle.read_jcal.proofs.bad_names.has_bad_names.Goals as goal

pub returns-then-has_bad_property : goal.returns-then-has_bad_property
returns-then-has_bad_property c = search (inside_first, branching, rules)

pub returns-else-has_bad_property : goal.returns-else-has_bad_property
returns-else-has_bad_property c = search (inside_first, branching, rules)
