-- `read_jcal_parameters::naming::is_small_name` meets its contract.
use Rattle.read_jcal_parameters.specs.laws.Names.{smalls}
use Rattle.read_jcal_parameters.proofs.naming.is_small_name.Goals as goal

pub returns-then-n-eq-END : goal.returns-then-n-eq-END
returns-then-n-eq-END c = search smalls

pub returns-then-not-is_name_char : goal.returns-then-not-is_name_char
returns-then-not-is_name_char c = search smalls

pub returns-then-is_capital : goal.returns-then-is_capital
returns-then-is_capital c = search smalls

pub loop-n-preserved : goal.loop-n-preserved
loop-n-preserved c = search smalls
