-- `read_jcal_parameters::naming::is_bad_name` meets its contract.
use Rattle.read_jcal_parameters.specs.laws.Names.{bad_at}
use borrow.Author.Rules.{rules}
use Rattle.read_jcal_parameters.proofs.naming.is_bad_name.Goals as goal

pub returns : goal.returns
returns c = search (bad_at, rules)
