-- `read_text_whole::judged` meets its contract.
use mathlib.Core.Path.{sym, ◌∙◌}
use Rattle.read_text_whole.specs.laws.Steps.{kept_bad, kept_good}
use Rattle.read_text_whole.proofs.judged.Goals as goal

pub returns-in-Some : goal.returns-in-Some
returns-in-Some g c = kept_bad c.args.edition c.args.input.now _ 0 (sym c.first_bad.ensures ∙ c.in-Some.is) c.place_of.ensures c.at.ensures

pub returns-in-None : goal.returns-in-None
returns-in-None g c = kept_good c.args.edition c.args.input.now _ _ c.lines_judged.result (sym c.first_bad.ensures ∙ c.in-None.is) c.lines_judged.ensures
