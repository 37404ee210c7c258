-- `text_from_jcal::formed` meets its contract.
use Rattle.text_from_jcal.specs.laws.Steps.{json_refused, json_fine}
use mathlib.Core.Path.{sym, ◌∙◌}
use borrow.Author.Rules.{rules}
use Rattle.text_from_jcal.proofs.formed.Goals as goal

pub judged-requires : goal.judged-requires
judged-requires c = (c.requires, sym c.json_fault.ensures ∙ c.in-None.is)

pub returns-in-Some : goal.returns-in-Some
returns-in-Some c = json_refused c.args.edition c.args.s.now c.args.out.now c.json_fault.ensures c.in-Some.is

pub returns-in-None : goal.returns-in-None
returns-in-None c = json_fine c.args.edition c.args.s.now c.args.out.now c.json_fault.ensures c.in-None.is c.judged.ensures
