-- `read_text::calendars::begin_opens` meets its contract.
use Rattle.read_text.specs.laws.Outer.{outer_unnamed, outer_begins, outer_parameters, outer_other}
use Rattle.read_text.proofs.calendars.begin_opens.Goals as goal

pub returns-then-no_params : goal.returns-then-no_params
returns-then-no_params g c = outer_begins _ g.E.Encoding.encoding c.args.s.now c.args.l c.is_component_name.ensures c.if-not-is_component_name.false c.component_number-n.ensures c.if-n-eq-VCALENDAR.true c.no_params.ensures c.if-no_params.true

pub returns-then-n-eq-VCALENDAR : goal.returns-then-n-eq-VCALENDAR
returns-then-n-eq-VCALENDAR g c = rw c.at-then-n-eq-VCALENDAR.ensures (outer_parameters _ g.E.Encoding.encoding c.args.s.now c.args.l c.is_component_name.ensures c.if-not-is_component_name.false c.component_number-n.ensures c.if-n-eq-VCALENDAR.true c.no_params.ensures c.if-no_params.false c.parameter_cursor-c.ensures)

pub returns : goal.returns
returns g c = rw c.at-2.ensures (outer_other _ g.E.Encoding.encoding c.args.s.now c.args.l c.is_component_name.ensures c.if-not-is_component_name.false c.component_number-n.ensures c.if-n-eq-VCALENDAR.false)

pub returns-then-not-is_component_name : goal.returns-then-not-is_component_name
returns-then-not-is_component_name g c = rw c.at.ensures (outer_unnamed _ g.E.Encoding.encoding c.args.s.now c.args.l c.is_component_name.ensures c.if-not-is_component_name.true)
