-- `read_jcal_parameters::several::is_spelled` meets its contract.
use Rattle.read_jcal_parameters.specs.laws.Values.{spelled_old, spelled_new}
use borrow.Author.Rules.{rules}
use Rattle.read_jcal_parameters.proofs.several.is_spelled.Goals as goal

pub returns-in-Rfc5545 : goal.returns-in-Rfc5545
returns-in-Rfc5545 c = search (spelled_old, rules)

pub returns-in-Rfc6868 : goal.returns-in-Rfc6868
returns-in-Rfc6868 c = search (spelled_new, rules)
