-- `read_text_parameters::is_last` meets its contract.
use Rattle.read_text_parameters.specs.laws.Cutting.{last_more, last_fault, last_over}
use borrow.Author.Rules.{rules}
use Rattle.std.proofs.Common.{ap, ◌∙◌, ◌≡◌, Ok, None, rules}
use Rattle.read_text_parameters.proofs.several.is_last.Goals as goal

pub returns-in_default : goal.returns-in_default
returns-in_default g c = let e : c.in_default.field-0 ≡ None = search rules in last_over g.met.E.Cuttable.cut c.next_value.ensures (c.in_default.is ∙ ap Ok e)

pub returns-in_default-2 : goal.returns-in_default-2
returns-in_default-2 g c = last_fault g.met.E.Cuttable.cut c.next_value.ensures c.in_default.is

pub returns : goal.returns
returns g c = last_more g.met.E.Cuttable.cut c.next_value.ensures (c.in-Ok-Some.is ∙ ap Ok c.in-Ok-Some.field-0-is)
