-- `read_xml::children::type_word` meets its contract.
use Rattle.read_xml.specs.laws.Turning.{counting}
use Rattle.read_xml.proofs.children.type_word.Goals as goal

pub overflow_add-result : goal.overflow_add-result
overflow_add-result c = search counting

pub returns : goal.returns
returns c = search counting
