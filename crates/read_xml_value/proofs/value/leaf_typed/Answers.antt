-- `read_xml_value::value::leaf_typed` meets its contract.
use Rattle.read_xml_value.specs.laws.Values.{typing}
use Rattle.read_xml_value.proofs.value.leaf_typed.Goals as goal

pub returns-then-has_words : goal.returns-then-has_words
returns-then-has_words c = search typing

pub returns-else-has_words : goal.returns-else-has_words
returns-else-has_words c = search typing
