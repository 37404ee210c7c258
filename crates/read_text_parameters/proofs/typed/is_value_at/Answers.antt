-- `read_text_parameters::is_value_at` meets its contract.
use Rattle.schema.specs.Numbers.{parameter_at}
use Rattle.source.specs.Source.{rest}
use Rattle.read_text_parameters.specs.laws.Typing.{by_quoted, by_missing, by_free}
use Rattle.read_text_parameters.proofs.typed.is_value_at.Goals as goal

pub returns-then-quoted : goal.returns-then-quoted
returns-then-quoted g c = by_quoted (parameter_at c.args.q) (rest g.E.Encoding.encoding c.args.s.now c.args.at) c.if-quoted.true c.is_chosen.ensures

pub returns-then-must : goal.returns-then-must
returns-then-must g c = by_missing (parameter_at c.args.q) (rest g.E.Encoding.encoding c.args.s.now c.args.at) c.if-quoted.false c.is_quoted_parameter-must.ensures c.if-must.true

pub returns : goal.returns
returns g c = by_free (parameter_at c.args.q) (rest g.E.Encoding.encoding c.args.s.now c.args.at) c.if-quoted.false c.is_quoted_parameter-must.ensures c.if-must.false c.is_chosen-2.ensures
