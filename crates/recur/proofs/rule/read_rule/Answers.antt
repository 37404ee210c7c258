-- `recur::rule::read_rule` meets its contract.
use mathlib.Core.Path.{sym, ◌∙◌}
use Rattle.recur.proofs.rule.read_rule.Goals as goal

pub returns : goal.returns
returns g c = c.is_some.ensures ∙ sym c.read_parts.ensures.is
