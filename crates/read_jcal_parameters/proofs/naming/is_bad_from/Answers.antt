-- `read_jcal_parameters::naming::is_bad_from` meets its contract.
use Rattle.read_jcal_parameters.specs.laws.Names.{bad_none, bad_large, bad_carried, bad_start}
use borrow.Author.Rules.{rules}
use Rattle.read_jcal_parameters.proofs.naming.is_bad_from.Goals as goal

pub returns-then-not-is_small_name : goal.returns-then-not-is_small_name
returns-then-not-is_small_name c = search (bad_none, bad_carried, bad_start, bad_large, rules)

pub returns-else-not-is_small_name : goal.returns-else-not-is_small_name
returns-else-not-is_small_name c = search (bad_none, bad_carried, bad_start, bad_large, rules)
