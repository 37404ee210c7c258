-- `read_text_line::value::param_value` meets its contract.
use Rattle.read_text_line.specs.laws.Values.{value_quoted, value_text}
use Rattle.read_text_line.proofs.value.param_value.Goals as goal

pub returns-then-n-eq-QUOTE : goal.returns-then-n-eq-QUOTE
returns-then-n-eq-QUOTE g c = value_quoted c.unit-n.ensures c.if-n-eq-QUOTE.true c.quoted_string.ensures

pub returns : goal.returns
returns g c = value_text c.unit-n.ensures c.if-n-eq-QUOTE.false c.run_end-to.ensures
