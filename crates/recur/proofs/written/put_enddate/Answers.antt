-- `recur::written::put_enddate` meets its contract.
use mathlib.Core.Path.{sym, ◌∙◌}
use Rattle.recur.specs.laws.PutShown.{put_end_day, put_end_moment}
use Rattle.recur.proofs.written.put_enddate.Goals as goal

pub returns-then-is_some : goal.returns-then-is_some
returns-then-is_some g c = put_end_day _ _ _ c.read_date.result c.read_date.ensures (sym c.is_some.ensures ∙ c.if-is_some.true) c.put_date.ensures

pub returns : goal.returns
returns g c = put_end_moment _ _ _ c.read_date.result c.read_date.ensures (sym c.is_some.ensures ∙ c.if-is_some.false) c.put_date_time.ensures
