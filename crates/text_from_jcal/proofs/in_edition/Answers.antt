-- `text_from_jcal::in_edition` meets its contract.
use mathlib.Core.Path.{sym, ◌∙◌}
use Rattle.text_from_jcal.specs.laws.Steps.{bad_character, good_characters}
use Rattle.text_from_jcal.proofs.in_edition.Goals as goal

pub returns-in-Some : goal.returns-in-Some
returns-in-Some c = bad_character c.args.edition c.args.s.now c.args.out.now (sym c.first_bad.ensures ∙ c.in-Some.is)

pub returns-in-None : goal.returns-in-None
returns-in-None c = good_characters c.args.edition c.args.s.now c.args.out.now (sym c.first_bad.ensures ∙ c.in-None.is) c.formed.ensures
