-- `recur::written::put_item` meets its contract.
use mathlib.Core.Path.{sym, ◌∙◌}
use Rattle.sink.specs.laws.Sink.{writing}
use Rattle.recur.specs.laws.PutShown.{put_item_shown, put_item_none}
use Rattle.recur.proofs.written.put_item.Goals as goal

pub returns-then-not-is_item : goal.returns-then-not-is_item
returns-then-not-is_item g c = put_item_none _ _ _ c.args.p (sym c.is_item.ensures ∙ c.if-not-is_item.true) (search writing)

pub returns : goal.returns
returns g c = put_item_shown _ _ _ c.args.p (sym c.is_item.ensures ∙ c.if-not-is_item.false) c.put_shown.ensures
