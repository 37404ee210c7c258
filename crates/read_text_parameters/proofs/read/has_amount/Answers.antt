-- `read_text_parameters::read::has_amount` meets its contract.
use Rattle.std.proofs.Common.{sym, ◌∙◌}
use Rattle.octets.specs.laws.Pick.{or_take, or_skip}
use Rattle.read_text_parameters.proofs.read.has_amount.Goals as goal

pub returns-then-is_listed_parameter : goal.returns-then-is_listed_parameter
returns-then-is_listed_parameter g c = c.if-is_listed_parameter.true ∙ or_take _ _ (sym c.is_listed_parameter.ensures ∙ c.if-is_listed_parameter.true)

pub returns-else-is_listed_parameter : goal.returns-else-is_listed_parameter
returns-else-is_listed_parameter g c = or_skip _ _ _ (sym c.is_listed_parameter.ensures ∙ c.if-is_listed_parameter.false) c.is_single.ensures
