-- `read_xml_nodes::readers::capital_from` meets its contract.
use Rattle.read_xml_nodes.specs.laws.Walks.{capitals}
use Rattle.read_xml_nodes.proofs.readers.capital_from.Goals as goal

pub returns-then-n-eq-END : goal.returns-then-n-eq-END
returns-then-n-eq-END c = search capitals

pub returns-then-is_capital : goal.returns-then-is_capital
returns-then-is_capital c = search capitals

pub loop-n-preserved : goal.loop-n-preserved
loop-n-preserved c = search capitals
