-- `read_text_parameters::read::is_parameter` meets its contract.
use Rattle.octets.specs.laws.Pick.{and_go, and_stop}
use Rattle.std.proofs.Common.{sym, ◌∙◌}
use Rattle.schema.specs.Numbers.{parameter_at}
use Rattle.read_text_line.specs.Cursor.{values_at}
use Rattle.read_text_parameters.specs.laws.Readable.{read_by_lem}
use Rattle.read_text_parameters.proofs.read.is_parameter.Goals as goal

pub returns-then-has_amount : goal.returns-then-has_amount
returns-then-has_amount g c = and_go _ _ _ (sym c.has_amount.ensures ∙ c.if-has_amount.true) c.are_values.ensures ∙ sym (read_by_lem c.args.edition (parameter_at c.args.q) (values_at g.E.Encoding.encoding c.args.s.now c.args.first))

pub returns-else-has_amount : goal.returns-else-has_amount
returns-else-has_amount g c = c.if-has_amount.false ∙ and_stop _ _ (sym c.has_amount.ensures ∙ c.if-has_amount.false) ∙ sym (read_by_lem c.args.edition (parameter_at c.args.q) (values_at g.E.Encoding.encoding c.args.s.now c.args.first))
