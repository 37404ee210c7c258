-- `read_xml_parameters::leaf::is_chosen` meets its contract.
use mathlib.Core.Path.{sym, ◌∙◌}
use mathlib.Core.Bool.{false≢true}
use Rattle.source.specs.Source.{rest}
use Rattle.schema.specs.Sets.{parameter_words_at}
use Rattle.values.specs.laws.ValueAt.{good_value, value_there}
use Rattle.read_xml_parameters.specs.laws.Leaves.{word_kept, chosen_word, chosen_any, chosen_other}
use Rattle.read_xml_parameters.proofs.leaf.is_chosen.Goals as goal

pub returns-then-parameter_has_words : goal.returns-then-parameter_has_words
returns-then-parameter_has_words c =
    chosen_word c.args.q _ c.parameter_has_words.ensures c.if-parameter_has_words.true (c.is_some.ensures ∙ word_kept (parameter_words_at c.args.q) (rest 1 c.args.s.now c.args.at) _ c.read_word_of_parameter.ensures)

pub returns-then-t-eq-UNKNOWN : goal.returns-then-t-eq-UNKNOWN
returns-then-t-eq-UNKNOWN c = chosen_any c.args.q _ c.parameter_has_words.ensures c.if-parameter_has_words.false c.parameter_type-t.ensures c.if-t-eq-UNKNOWN.true

pub returns : goal.returns
returns c =
    chosen_other c.args.q _ c.parameter_has_words.ensures c.if-parameter_has_words.false c.parameter_type-t.ensures c.if-t-eq-UNKNOWN.false (c.is_some-2.ensures ∙ sym (good_value _ _ (value_there _ _ _ _ _ c.read_value.ensures (λ h. absurd (false≢true (sym h))))))
