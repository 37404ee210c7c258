-- `read_xml::children::status_word` meets its contract.
use Rattle.read_xml.specs.laws.Turning.{counting}
use Rattle.read_xml.proofs.children.status_word.Goals as goal

pub returns-then-is_word : goal.returns-then-is_word
returns-then-is_word c = search counting

pub returns-then-is_word-2 : goal.returns-then-is_word-2
returns-then-is_word-2 c = search counting

pub returns-then-is_word-3 : goal.returns-then-is_word-3
returns-then-is_word-3 c = search counting

pub returns-else-is_word-3 : goal.returns-else-is_word-3
returns-else-is_word-3 c = search counting
