-- `read_jcal_value::mark_at` meets its contract.
use Rattle.read_jcal_value.specs.laws.Number.{marking}
use Rattle.read_jcal_value.proofs.number.mark_at.Goals as goal

pub loop-i-init : goal.loop-i-init
loop-i-init c = search marking

pub bounds-s-i : goal.bounds-s-i
bounds-s-i c = search marking

pub wide-u-requires : goal.wide-u-requires
wide-u-requires c = search marking

pub is_mark-mark-requires : goal.is_mark-mark-requires
is_mark-mark-requires c = search marking

pub returns-then-mark : goal.returns-then-mark
returns-then-mark c = search marking

pub overflow_add-i : goal.overflow_add-i
overflow_add-i c = search marking

pub loop-i-smaller : goal.loop-i-smaller
loop-i-smaller c = search marking

pub loop-i-preserved : goal.loop-i-preserved
loop-i-preserved c = search marking

pub returns : goal.returns
returns c = search marking
