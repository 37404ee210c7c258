-- `read_jcal_parameters::base64::is_encoded` meets its contract.
use Rattle.read_jcal_parameters.specs.laws.Encoded.{encoded_here, encoded_other}
use borrow.Author.Rules.{rules}
use Rattle.read_jcal_parameters.proofs.base64.is_encoded.Goals as goal

pub returns-then-parameter_number-eq-ENCODING : goal.returns-then-parameter_number-eq-ENCODING
returns-then-parameter_number-eq-ENCODING c = search (encoded_here, encoded_other, rules)

pub returns-else-parameter_number-eq-ENCODING : goal.returns-else-parameter_number-eq-ENCODING
returns-else-parameter_number-eq-ENCODING c = search (encoded_here, encoded_other, rules)
