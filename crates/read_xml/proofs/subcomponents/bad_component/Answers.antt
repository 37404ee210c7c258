-- `read_xml::subcomponents::bad_component` meets its contract.
use Rattle.read_xml.specs.laws.Subcomponents.{naming}
use Rattle.read_xml.proofs.subcomponents.bad_component.Goals as goal

pub returns-then-has_capital : goal.returns-then-has_capital
returns-then-has_capital c = search naming

pub returns-else-has_capital : goal.returns-else-has_capital
returns-else-has_capital c = search naming
