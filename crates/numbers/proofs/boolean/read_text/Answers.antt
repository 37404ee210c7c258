-- `numbers::boolean::read_text` meets its contract.
use Rattle.numbers.specs.laws.ReadBoolean.{text_true, text_false, text_neither}
use Rattle.numbers.proofs.boolean.read_text.Goals as goal

pub returns-then-is_word_any_case : goal.returns-then-is_word_any_case
returns-then-is_word_any_case g c = text_true _ c.is_word_any_case.ensures c.if-is_word_any_case.true

pub returns-then-is_word_any_case-2 : goal.returns-then-is_word_any_case-2
returns-then-is_word_any_case-2 g c = text_false _ c.is_word_any_case.ensures c.if-is_word_any_case.false c.is_word_any_case-2.ensures c.if-is_word_any_case-2.true

pub returns : goal.returns
returns g c = text_neither _ c.is_word_any_case.ensures c.if-is_word_any_case.false c.is_word_any_case-2.ensures c.if-is_word_any_case-2.false
