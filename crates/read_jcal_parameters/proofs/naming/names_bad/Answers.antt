-- `read_jcal_parameters::naming::names_bad` meets its contract.
use Rattle.read_jcal_parameters.specs.laws.Names.{naming}
use Rattle.read_jcal_parameters.proofs.naming.names_bad.Goals as goal

pub returns-then-is_bad_parameter : goal.returns-then-is_bad_parameter
returns-then-is_bad_parameter c = search naming

pub loop-m-preserved : goal.loop-m-preserved
loop-m-preserved c = search naming

pub returns : goal.returns
returns c = search naming
