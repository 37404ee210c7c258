-- `read_text_line::value::quoted_string` meets its contract.
use Rattle.read_text_line.specs.laws.Values.{quoted_closed, quoted_broken}
use Rattle.read_text_line.proofs.value.quoted_string.Goals as goal

pub returns-then-n-eq-QUOTE : goal.returns-then-n-eq-QUOTE
returns-then-n-eq-QUOTE g c = quoted_closed c.run_end-to.ensures c.unit-n.ensures c.if-n-eq-QUOTE.true

pub returns-else-n-eq-QUOTE : goal.returns-else-n-eq-QUOTE
returns-else-n-eq-QUOTE g c = quoted_broken c.run_end-to.ensures c.unit-n.ensures c.if-n-eq-QUOTE.false
