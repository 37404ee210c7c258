-- `read_xml_nodes::readers::unexpected` meets its contract.
use Rattle.read_xml_nodes.specs.laws.Judging.{judging}
use Rattle.read_xml_nodes.proofs.readers.unexpected.Goals as goal

pub returns-then-has_capital : goal.returns-then-has_capital
returns-then-has_capital c = search judging

pub returns-else-has_capital : goal.returns-else-has_capital
returns-else-has_capital c = search judging
