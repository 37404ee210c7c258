-- `read_jcal_parameters::several::is_amount` meets its contract.
use Rattle.read_jcal_parameters.specs.laws.Shapes.{head_inside}
use Rattle.read_jcal_parameters.specs.laws.Values.{amount_none, amount_listed, amount_single}
use borrow.Author.Rules.{rules}
use Rattle.read_jcal_parameters.proofs.several.is_amount.Goals as goal

pub returns-then-none : goal.returns-then-none
returns-then-none c = search (amount_none, rules)

pub returns-then-listed : goal.returns-then-listed
returns-then-listed c = search (amount_listed, rules)

pub element_next-next-requires : goal.element_next-next-requires
element_next-next-requires c = search (head_inside, rules)

pub returns : goal.returns
returns c = search (amount_single, rules)
