-- `read_jcal_value::all_read` meets its contract.
use Rattle.read_jcal_value.specs.laws.Elements.{eaching}
use Rattle.read_jcal_value.proofs.valued.all_read.Goals as goal

pub returns-then-not-is_there : goal.returns-then-not-is_there
returns-then-not-is_there c = search eaching

pub returns-then-not-one_read : goal.returns-then-not-one_read
returns-then-not-one_read c = search eaching

pub loop-context-preserved : goal.loop-context-preserved
loop-context-preserved c = search eaching
