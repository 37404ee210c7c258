-- `read_text_parameters::is_encoded` meets its contract.
use Rattle.read_text_parameters.specs.laws.Judging.{encodes_is, encodes_other, encodes_none}
use Rattle.read_text_line.specs.Decoded.{values_in}
use Rattle.read_text_parameters.proofs.walk.is_encoded.Goals as goal

pub returns-then-q-eq-ENCODING : goal.returns-then-q-eq-ENCODING
returns-then-q-eq-ENCODING g c = encodes_is c.args.t c.args.q (values_in c.args.edition g.E.Encoding.encoding c.args.s.now c.args.first) c.if-t-eq-BINARY.true c.if-q-eq-ENCODING.true c.is_base64.ensures

pub returns-then-t-eq-BINARY : goal.returns-then-t-eq-BINARY
returns-then-t-eq-BINARY g c = encodes_other c.args.t c.args.q (values_in c.args.edition g.E.Encoding.encoding c.args.s.now c.args.first) c.if-t-eq-BINARY.true c.if-q-eq-ENCODING.false

pub returns : goal.returns
returns g c = encodes_none c.args.t c.args.q (values_in c.args.edition g.E.Encoding.encoding c.args.s.now c.args.first) c.if-t-eq-BINARY.false
