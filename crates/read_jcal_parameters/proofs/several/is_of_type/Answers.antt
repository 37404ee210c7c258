-- `read_jcal_parameters::several::is_of_type` meets its contract.
use mathlib.Core.Path.{sym, ◌∙◌}
use mathlib.Core.Bool.{false≢true}
use Rattle.values.specs.laws.ValueAt.{good_value, value_there}
use Rattle.read_jcal_parameters.specs.laws.Values.{typed_any, typed_truth, typed_other}
use borrow.Author.Rules.{rules}
use Rattle.read_jcal_parameters.proofs.several.is_of_type.Goals as goal

pub returns-then-t-eq-UNKNOWN : goal.returns-then-t-eq-UNKNOWN
returns-then-t-eq-UNKNOWN c = search (typed_any, rules)

pub returns-then-t-eq-BOOLEAN : goal.returns-then-t-eq-BOOLEAN
returns-then-t-eq-BOOLEAN c = search (typed_truth, rules)

pub returns : goal.returns
returns c =
    typed_other c.args.q _ c.parameter_type-t.ensures c.if-t-eq-UNKNOWN.false c.if-t-eq-BOOLEAN.false (c.is_some.ensures ∙ sym (good_value _ _ (value_there _ _ _ _ _ c.read_value.ensures (λ h. absurd (false≢true (sym h))))))
