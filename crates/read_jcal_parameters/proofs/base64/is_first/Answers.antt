-- `read_jcal_parameters::base64::is_first` meets its contract.
use Rattle.read_jcal_parameters.specs.laws.Shapes.{string_inside}
use Rattle.read_jcal_parameters.specs.laws.Encoded.{first_string, first_other}
use borrow.Author.Rules.{rules}
use Rattle.read_jcal_parameters.proofs.base64.is_first.Goals as goal

pub returns-then-is_string : goal.returns-then-is_string
returns-then-is_string c = search (string_inside, first_string, first_other, rules)

pub returns-else-is_string : goal.returns-else-is_string
returns-else-is_string c = search (string_inside, first_string, first_other, rules)
