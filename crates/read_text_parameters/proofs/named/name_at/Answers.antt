-- `read_text_parameters::name_at` meets its contract. Assumes nothing.
use Rattle.read_text_parameters.specs.laws.Naming.{name_there}
use Rattle.std.proofs.Common.{ap, ◌∙◌, Ok}
use Rattle.read_text_parameters.proofs.named.name_at.Goals as goal

pub returns-then-a : goal.returns-then-a
returns-then-a g c = name_there c.next_param.ensures (c.in-Ok-Some.is ∙ ap Ok c.in-Ok-Some.field-0-is) c.if-a.true
