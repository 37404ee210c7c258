-- `read_jcal_parameters::several::is_good` meets its contract.
use Rattle.read_jcal_parameters.specs.laws.Values.{string_not, string_spelled}
use borrow.Author.Rules.{rules}
use Rattle.read_jcal_parameters.proofs.several.is_good.Goals as goal

pub returns-then-chosen : goal.returns-then-chosen
returns-then-chosen c = search (string_spelled, rules)

pub returns : goal.returns
returns c = search (string_not, rules)
