-- `read_jcal::named_shape` meets its contract.
use Rattle.read_jcal.specs.laws.Components.{shapes}
use Rattle.read_jcal.proofs.component.named_shape.Goals as goal

pub returns-then-not-is_whole : goal.returns-then-not-is_whole
returns-then-not-is_whole c = search shapes

pub returns-then-not-may_begin_in : goal.returns-then-not-may_begin_in
returns-then-not-may_begin_in c = search shapes

pub returns-then-left-eq0 : goal.returns-then-left-eq0
returns-then-left-eq0 c = search shapes

pub returns : goal.returns
returns c = search shapes
