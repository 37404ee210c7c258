-- `read_text::line::no_params` meets its contract.
use borrow.Author.Rules.{rules}
use Rattle.read_text.specs.laws.Kinds.{params_some, params_bad, params_none}
use Rattle.std.proofs.Common.{ap, ◌∙◌, ◌≡◌, Ok, None, rules}
use Rattle.read_text.proofs.line.no_params.Goals as goal

pub returns-in_default : goal.returns-in_default
returns-in_default g c = let e : c.in_default.field-0 ≡ None = search rules in params_none c.next_param.ensures (c.in_default.is ∙ ap Ok e)

pub returns-in_default-2 : goal.returns-in_default-2
returns-in_default-2 g c = params_bad c.next_param.ensures c.in_default.is

pub returns : goal.returns
returns g c = params_some c.next_param.ensures (c.in-Ok-Some.is ∙ ap Ok c.in-Ok-Some.field-0-is)
