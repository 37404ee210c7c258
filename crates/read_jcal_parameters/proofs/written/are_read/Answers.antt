-- `read_jcal_parameters::written::are_read` meets its contract.
use Rattle.read_jcal_parameters.specs.laws.Written.{readings}
use Rattle.read_jcal_parameters.proofs.written.are_read.Goals as goal

pub returns-then-not-is_read : goal.returns-then-not-is_read
returns-then-not-is_read c = search readings

pub loop-m-preserved : goal.loop-m-preserved
loop-m-preserved c = search readings

pub returns : goal.returns
returns c = search readings
