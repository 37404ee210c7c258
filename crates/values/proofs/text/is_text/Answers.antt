-- `values::text::is_text` meets its contract.
use Rattle.values.specs.laws.ValueAt.{text_xml, text_is}
use Rattle.values.proofs.text.is_text.Goals as goal

pub returns-then-xcal : goal.returns-then-xcal
returns-then-xcal g c = text_xml _ c.if-xcal.true

pub returns : goal.returns
returns g c = text_is _ c.if-xcal.false c.read_one_text.ensures
