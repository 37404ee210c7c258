-- `recur::word::is_enddate` meets its contract.
use mathlib.Core.Path.{sym, ◌∙◌}
use Rattle.recur.specs.laws.Fits.{end_there, end_other}
use Rattle.recur.proofs.word.is_enddate.Goals as goal

pub returns-then-is_some : goal.returns-then-is_some
returns-then-is_some g c = c.if-is_some.true ∙ end_there _ _ c.read_date.result c.read_date.ensures (sym c.is_some.ensures ∙ c.if-is_some.true)

pub returns-else-is_some : goal.returns-else-is_some
returns-else-is_some g c = c.is_some-else-is_some.ensures ∙ end_other _ _ c.read_date.result c.read_date.ensures c.read_date_time.result (sym c.is_some.ensures ∙ c.if-is_some.false) c.read_date_time.ensures
