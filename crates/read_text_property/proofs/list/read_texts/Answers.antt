-- `read_text_property::list::read_texts` meets its contract.
use Rattle.std.proofs.Common.{sym, ◌∙◌}
use Rattle.read_text_property.specs.laws.ValuesAt.{values_yes, values_no}
use Rattle.read_text_property.proofs.list.read_texts.Goals as goal

pub returns-then-read_text : goal.returns-then-read_text
returns-then-read_text g c = values_yes c.args.t (sym c.if-read_text.true ∙ c.read_text.ensures)

pub returns-else-read_text : goal.returns-else-read_text
returns-else-read_text g c = values_no c.args.t (sym c.if-read_text.false ∙ c.read_text.ensures)
