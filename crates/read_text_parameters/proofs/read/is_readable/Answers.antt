-- `read_text_parameters::is_readable` meets its contract.
use Rattle.read_text_parameters.specs.laws.Readable.{readable_value, readable_other}
use Rattle.read_text_line.specs.Decoded.{values_in}
use Rattle.source.specs.Source.{rest}
use lib.ListN.{take}
use Rattle.read_text_parameters.proofs.read.is_readable.Goals as goal

pub returns-then-value : goal.returns-then-value
returns-then-value g c = readable_value (rest g.E.Encoding.encoding (take c.args.end c.args.s.now) c.args.name) (values_in c.args.edition g.E.Encoding.encoding c.args.s.now c.args.first) c.is_value_name-value.ensures c.if-value.true

pub returns : goal.returns
returns g c = readable_other (rest g.E.Encoding.encoding (take c.args.end c.args.s.now) c.args.name) (values_in c.args.edition g.E.Encoding.encoding c.args.s.now c.args.first) c.is_value_name-value.ensures c.if-value.false c.number_of-q.ensures c.is_parameter.ensures
