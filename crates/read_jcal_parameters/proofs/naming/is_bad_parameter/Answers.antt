-- `read_jcal_parameters::naming::is_bad_parameter` meets its contract.
use Rattle.read_jcal_parameters.specs.laws.Names.{parameter_bad, parameter_value_lem}
use borrow.Author.Rules.{rules}
use Rattle.read_jcal_parameters.proofs.naming.is_bad_parameter.Goals as goal

pub returns-then-is_bad_from : goal.returns-then-is_bad_from
returns-then-is_bad_from c = search (parameter_bad, parameter_value_lem, rules)

pub returns-else-is_bad_from : goal.returns-else-is_bad_from
returns-else-is_bad_from c = search (parameter_bad, parameter_value_lem, rules)
