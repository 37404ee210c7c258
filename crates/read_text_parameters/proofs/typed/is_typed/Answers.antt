-- `read_text_parameters::is_typed` meets its contract.
use Rattle.values.specs.laws.ValueAt.{good_yes, good_no}
use Rattle.read_text_parameters.specs.laws.Typing.{typed_text, typed_unknown, typed_other, typed_there}
use Rattle.read_text_parameters.proofs.typed.is_typed.Goals as goal

pub returns-then-t-eq-TEXT : goal.returns-then-t-eq-TEXT
returns-then-t-eq-TEXT g c = typed_text _ _ c.parameter_type-t.ensures c.if-t-eq-TEXT.true

pub returns-then-t-eq-UNKNOWN : goal.returns-then-t-eq-UNKNOWN
returns-then-t-eq-UNKNOWN g c = typed_unknown _ _ c.parameter_type-t.ensures c.if-t-eq-TEXT.false c.if-t-eq-UNKNOWN.true

pub returns-in_default : goal.returns-in_default
returns-in_default g c = typed_other _ _ c.parameter_type-t.ensures c.if-t-eq-TEXT.false c.if-t-eq-UNKNOWN.false (good_no _ (typed_there c.args.q _ _ c.parameter_type-t.ensures c.read_value.ensures) c.in_default.is)

pub returns : goal.returns
returns g c = typed_other _ _ c.parameter_type-t.ensures c.if-t-eq-TEXT.false c.if-t-eq-UNKNOWN.false (good_yes _ (typed_there c.args.q _ _ c.parameter_type-t.ensures c.read_value.ensures) c.in-Some.is)
