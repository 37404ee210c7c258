-- `read_jcal_value::all_items` meets its contract.
use Rattle.read_jcal_value.specs.laws.Elements.{eaching}
use Rattle.read_jcal_value.proofs.items.all_items.Goals as goal

pub returns-then-not-is_there : goal.returns-then-not-is_there
returns-then-not-is_there c = search eaching

pub returns-then-not-is_item : goal.returns-then-not-is_item
returns-then-not-is_item c = search eaching

pub loop-h-preserved : goal.loop-h-preserved
loop-h-preserved c = search eaching
