-- `recur::word::is_weekdaynum` meets its contract.
use mathlib.Core.Path.{sym, ◌∙◌}
use Rattle.octets.specs.laws.Pick.{and_go}
use Rattle.recur.proofs.word.is_weekdaynum.Goals as goal

pub returns-then-is_ordinal : goal.returns-then-is_ordinal
returns-then-is_ordinal g c = and_go _ _ _ (sym c.is_ordinal.ensures ∙ c.if-is_ordinal.true) (rw c.first_letter.ensures c.is_weekday.ensures)
