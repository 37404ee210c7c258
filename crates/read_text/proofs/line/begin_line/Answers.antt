-- `read_text::line::begin_line` meets its contract.
use borrow.Author.Tests.{lt-ltb, le-ltb}
use Rattle.read_text.specs.laws.Kinds.{begin_unnamed, begin_not, begin_deep, begin_starts, begin_parameters}
use Rattle.std.proofs.Common.{arith}
use Rattle.read_text.proofs.line.begin_line.Goals as goal

pub returns-then-not-is_component_name : goal.returns-then-not-is_component_name
returns-then-not-is_component_name g c = λ n w o. rw c.at.ensures (begin_unnamed _ _ g.E.Encoding.encoding c.args.s.now w c.args.l n c.is_component_name.ensures c.if-not-is_component_name.true)

pub returns-then-not-may_begin : goal.returns-then-not-may_begin
returns-then-not-may_begin g c = λ n w o. rw c.at-then-not-may_begin.ensures (begin_not _ _ g.E.Encoding.encoding c.args.s.now w c.args.l n c.is_component_name.ensures c.if-not-is_component_name.false o c.component_number-n.ensures c.may_begin.ensures c.if-not-may_begin.true)

pub returns-then-left-eq0 : goal.returns-then-left-eq0
returns-then-left-eq0 g c = λ n w o. rw c.at-then-left-eq0.ensures (begin_deep _ _ g.E.Encoding.encoding c.args.s.now w c.args.l n c.is_component_name.ensures c.if-not-is_component_name.false o c.component_number-n.ensures c.may_begin.ensures c.if-not-may_begin.false (le-ltb 0 _ (omega arith)))

pub returns-then-no_params : goal.returns-then-no_params
returns-then-no_params g c = λ n w o. begin_starts _ _ g.E.Encoding.encoding c.args.s.now w c.args.l n c.is_component_name.ensures c.if-not-is_component_name.false o c.component_number-n.ensures c.may_begin.ensures c.if-not-may_begin.false (lt-ltb 0 _ (omega (arith, c.if-left-eq0.false))) c.no_params.ensures c.if-no_params.true

pub returns : goal.returns
returns g c = λ n w o. rw c.at-2.ensures (begin_parameters _ _ g.E.Encoding.encoding c.args.s.now w c.args.l n c.is_component_name.ensures c.if-not-is_component_name.false o c.component_number-n.ensures c.may_begin.ensures c.if-not-may_begin.false (lt-ltb 0 _ (omega (arith, c.if-left-eq0.false))) c.no_params.ensures c.if-no_params.false c.parameter_cursor-c.ensures)
