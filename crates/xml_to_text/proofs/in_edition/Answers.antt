-- `xml_to_text::in_edition` meets its contract.
use mathlib.Core.Path.{sym, ◌∙◌}
use Rattle.xml_to_text.specs.laws.Steps.{bad_character, good_characters}
use Rattle.xml_to_text.proofs.in_edition.Goals as goal

pub returns-in-Some : goal.returns-in-Some
returns-in-Some c = bad_character _ c.args.s.now c.args.out.now (sym c.first_bad.ensures ∙ c.in-Some.is)

pub returns-in-None : goal.returns-in-None
returns-in-None c = good_characters _ c.args.s.now c.args.out.now (sym c.first_bad.ensures ∙ c.in-None.is) c.formed.ensures
