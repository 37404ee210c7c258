-- `read_xml::properties::bad_name` meets its contract.
use Rattle.read_xml.specs.laws.Properties.{naming}
use Rattle.read_xml.proofs.properties.bad_name.Goals as goal

pub returns-then-has_capital : goal.returns-then-has_capital
returns-then-has_capital c = search naming

pub returns-then-is_word : goal.returns-then-is_word
returns-then-is_word c = search naming

pub returns-then-is_carried_name : goal.returns-then-is_carried_name
returns-then-is_carried_name c = search naming

pub returns : goal.returns
returns c = search naming
