-- `read_text_parameters::type_behind` meets its contract.
use Rattle.read_text_parameters.specs.laws.Judging.{behind_value, behind_fit, behind_unfit}
use Rattle.read_text_line.specs.Decoded.{values_in, params_in}
use Rattle.read_text_parameters.specs.Walking.{stated_by}
use Rattle.read_text_parameters.proofs.walk.type_behind.Goals as goal

pub returns-then-q-eq-VALUE : goal.returns-then-q-eq-VALUE
returns-then-q-eq-VALUE g c = behind_value c.args.row (stated_by c.args.n (params_in c.args.edition g.E.Encoding.encoding c.args.s.now c.args.a.next)) _ c.args.q (values_in c.args.edition g.E.Encoding.encoding c.args.s.now c.args.a.first) c.if-q-eq-VALUE.true c.type_in.ensures

pub returns-then-fit : goal.returns-then-fit
returns-then-fit g c = behind_fit c.args.row (stated_by c.args.n (params_in c.args.edition g.E.Encoding.encoding c.args.s.now c.args.a.next)) _ c.args.q (values_in c.args.edition g.E.Encoding.encoding c.args.s.now c.args.a.first) c.if-q-eq-VALUE.false c.type_for-t.ensures c.is_fit-fit.ensures c.if-fit.true

pub returns : goal.returns
returns g c = behind_unfit c.args.row (stated_by c.args.n (params_in c.args.edition g.E.Encoding.encoding c.args.s.now c.args.a.next)) _ c.args.q (values_in c.args.edition g.E.Encoding.encoding c.args.s.now c.args.a.first) c.if-q-eq-VALUE.false c.type_for-t.ensures c.is_fit-fit.ensures c.if-fit.false
