-- `read_jcal_parameters::written::is_read` meets its contract.
use Rattle.read_jcal_parameters.specs.laws.Written.{read_by}
use borrow.Author.Rules.{rules}
use Rattle.read_jcal_parameters.proofs.written.is_read.Goals as goal

pub returns : goal.returns
returns c = search (read_by, rules)
