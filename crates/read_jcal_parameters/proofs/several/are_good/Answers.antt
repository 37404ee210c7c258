-- `read_jcal_parameters::several::are_good` meets its contract.
use Rattle.read_jcal_parameters.specs.laws.Shapes.{string_inside}
use Rattle.read_jcal_parameters.specs.laws.Values.{values_not, values_many, values_alone, values_other}
use borrow.Author.Rules.{rules}
use Rattle.read_jcal_parameters.proofs.several.are_good.Goals as goal

pub returns-then-good : goal.returns-then-good
returns-then-good c = search (values_many, rules)

pub returns-then-array : goal.returns-then-array
returns-then-array c = search (values_not, rules)

pub cursor_of-k-requires : goal.cursor_of-k-requires
cursor_of-k-requires c = search (string_inside, rules)

pub returns-then-string : goal.returns-then-string
returns-then-string c = search (values_alone, rules)

pub returns : goal.returns
returns c = search (values_other, rules)
