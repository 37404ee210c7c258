-- `read_xml_value::parts::period_word` meets its contract.
use Rattle.read_xml_value.specs.laws.Parts.{periods}
use Rattle.read_xml_value.proofs.parts.period_word.Goals as goal

pub returns-then-is_word : goal.returns-then-is_word
returns-then-is_word c = search periods

pub returns-then-is_word-2 : goal.returns-then-is_word-2
returns-then-is_word-2 c = search periods

pub returns-then-is_word-3 : goal.returns-then-is_word-3
returns-then-is_word-3 c = search periods

pub returns-else-is_word-3 : goal.returns-else-is_word-3
returns-else-is_word-3 c = search periods
