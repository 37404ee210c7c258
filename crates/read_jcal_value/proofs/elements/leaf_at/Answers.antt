-- `read_jcal_value::leaf_at` meets its contract.
use Rattle.read_jcal_value.specs.laws.Elements.{leafing}
use Rattle.read_jcal_value.proofs.elements.leaf_at.Goals as goal

pub returns-then-not-is_leaf : goal.returns-then-not-is_leaf
returns-then-not-is_leaf c = search leafing

pub returns : goal.returns
returns c = search leafing
