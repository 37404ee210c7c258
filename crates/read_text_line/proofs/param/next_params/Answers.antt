-- `read_text_line::param::next_params` meets its contract.
use Rattle.std.proofs.Common.{ap, ◌∙◌, Ok}
use Rattle.read_text_line.specs.laws.Repeating.{param_takes, walk_start, walk_more, walk_less, walk_end, walk_bad}
use Rattle.read_text_line.proofs.param.next_params.Goals as goal

pub loop-p-init : goal.loop-p-init
loop-p-init g c = walk_start _ _ _ _

pub loop-p-smaller : goal.loop-p-smaller
loop-p-smaller g c = walk_less c.next_param.ensures.item param_takes (c.in-Ok-Some.is ∙ ap Ok c.in-Ok-Some.field-0-is)

pub loop-p-preserved : goal.loop-p-preserved
loop-p-preserved g c = walk_more c.next_param.ensures.item param_takes c.loop-p.invariant (c.in-Ok-Some.is ∙ ap Ok c.in-Ok-Some.field-0-is)

pub returns-in-Ok-None : goal.returns-in-Ok-None
returns-in-Ok-None g c = walk_end c.next_param.ensures.item c.loop-p.invariant (c.in-Ok-None.is ∙ ap Ok c.in-Ok-None.field-0-is)

pub returns-in-Err : goal.returns-in-Err
returns-in-Err g c = walk_bad c.next_param.ensures.item c.loop-p.invariant c.in-Err.is
