-- `read_text_parameters::number_at` meets its contract.
use Rattle.read_text_parameters.specs.laws.Walking.{number_known, number_named, number_none}
use Rattle.read_text_parameters.proofs.walk.number_at.Goals as goal

pub returns-then-q-lt-KNOWN : goal.returns-then-q-lt-KNOWN
returns-then-q-lt-KNOWN g c = number_known _ c.number_of-q.ensures c.if-q-lt-KNOWN.true

pub returns-then-value : goal.returns-then-value
returns-then-value g c = number_named _ c.is_value_name-value.ensures c.if-value.true

pub returns : goal.returns
returns g c = number_none _ c.number_of-q.ensures c.is_value_name-value.ensures c.if-value.false
