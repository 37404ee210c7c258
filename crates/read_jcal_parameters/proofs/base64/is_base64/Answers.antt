-- `read_jcal_parameters::base64::is_base64` meets its contract.
use Rattle.read_jcal_parameters.specs.laws.Encoded.{base_array, base_alone}
use borrow.Author.Rules.{rules}
use Rattle.read_jcal_parameters.proofs.base64.is_base64.Goals as goal

pub returns-then-is_array : goal.returns-then-is_array
returns-then-is_array c = search (base_array, base_alone, rules)

pub returns-else-is_array : goal.returns-else-is_array
returns-else-is_array c = search (base_array, base_alone, rules)
