-- `read_text_parameters::is_end` meets its contract. Assumes nothing.
use Rattle.read_text_parameters.specs.laws.Rounds.{ends_over, ends_fault, ends_again}
use borrow.Author.Rules.{rules}
use Rattle.std.proofs.Common.{ap, ◌∙◌, ◌≡◌, Ok, None, rules}
use Rattle.read_text_parameters.proofs.once.is_end.Goals as goal

pub returns-in_default : goal.returns-in_default
returns-in_default g c = let e : c.in_default.field-0 ≡ None = search rules in ends_over g.met.E.Cuttable.cut c.next_param.ensures (c.in_default.is ∙ ap Ok e)

pub returns-in_default-2 : goal.returns-in_default-2
returns-in_default-2 g c = ends_fault g.met.E.Cuttable.cut c.next_param.ensures c.in_default.is

pub returns : goal.returns
returns g c = ends_again g.met.E.Cuttable.cut c.next_param.ensures (c.in-Ok-Some.is ∙ ap Ok c.in-Ok-Some.field-0-is) c.stands_before.ensures
