-- `read_text_property::list::read_listed` meets its contract.
use mathlib.Core.Path.{refl}
use Rattle.read_text_property.specs.laws.Listed.{listed_text, listed_other}
use Rattle.read_text_property.specs.laws.ValuesAt.{values_as}
use Rattle.read_text_property.proofs.list.read_listed.Goals as goal

pub returns-then-t-eq-TEXT : goal.returns-then-t-eq-TEXT
returns-then-t-eq-TEXT g c = values_as _ c.read_texts.ensures (listed_text _ _ c.if-t-eq-TEXT.true refl)

pub returns : goal.returns
returns g c = values_as _ c.read_each.ensures (listed_other _ _ c.if-t-eq-TEXT.false refl)
