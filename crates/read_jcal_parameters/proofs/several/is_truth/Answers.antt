-- `read_jcal_parameters::several::is_truth` meets its contract.
use Rattle.read_jcal_parameters.specs.laws.Values.{truth_yes, truth_other}
use borrow.Author.Rules.{rules}
use Rattle.read_jcal_parameters.proofs.several.is_truth.Goals as goal

pub returns-then-yes : goal.returns-then-yes
returns-then-yes c = search (truth_yes, rules)

pub returns : goal.returns
returns c = search (truth_other, rules)
