-- `read_text::line::end_line` meets its contract.
use Rattle.read_text.specs.laws.Kinds.{end_stops, end_parameters, end_other}
use Rattle.read_text.proofs.line.end_line.Goals as goal

pub returns-then-not-is_same_name : goal.returns-then-not-is_same_name
returns-then-not-is_same_name g c = λ i w. rw c.at.ensures (end_other _ i g.E.Encoding.encoding c.args.s.now w c.args.l _ c.is_same_name.ensures c.if-not-is_same_name.true)

pub returns-then-no_params : goal.returns-then-no_params
returns-then-no_params g c = λ i w. end_stops _ i g.E.Encoding.encoding c.args.s.now w c.args.l _ c.is_same_name.ensures c.if-not-is_same_name.false c.no_params.ensures c.if-no_params.true

pub returns : goal.returns
returns g c = λ i w. rw c.at-2.ensures (end_parameters _ i g.E.Encoding.encoding c.args.s.now w c.args.l _ c.is_same_name.ensures c.if-not-is_same_name.false c.no_params.ensures c.if-no_params.false c.parameter_cursor-c.ensures)
