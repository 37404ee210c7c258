-- `read_text_line::value::next_values` meets its contract.
use Rattle.std.proofs.Common.{ap, ◌∙◌, Ok}
use Rattle.read_text_line.specs.laws.Repeating.{value_takes, walk_start, walk_more, walk_less, walk_end, walk_bad}
use Rattle.read_text_line.proofs.value.next_values.Goals as goal

pub loop-v-init : goal.loop-v-init
loop-v-init g c = walk_start _ _ _ _

pub loop-v-smaller : goal.loop-v-smaller
loop-v-smaller g c = walk_less c.next_value.ensures.item value_takes (c.in-Ok-Some.is ∙ ap Ok c.in-Ok-Some.field-0-is)

pub loop-v-preserved : goal.loop-v-preserved
loop-v-preserved g c = walk_more c.next_value.ensures.item value_takes c.loop-v.invariant (c.in-Ok-Some.is ∙ ap Ok c.in-Ok-Some.field-0-is)

pub returns-in-Ok-None : goal.returns-in-Ok-None
returns-in-Ok-None g c = walk_end c.next_value.ensures.item c.loop-v.invariant (c.in-Ok-None.is ∙ ap Ok c.in-Ok-None.field-0-is)

pub returns-in-Err : goal.returns-in-Err
returns-in-Err g c = walk_bad c.next_value.ensures.item c.loop-v.invariant c.in-Err.is
