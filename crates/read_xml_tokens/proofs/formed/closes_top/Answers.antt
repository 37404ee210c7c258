-- `read_xml_tokens::formed::closes_top` meets its contract.
use Rattle.octets.specs.laws.Pick.{branching}
use Rattle.read_xml_tokens.proofs.formed.closes_top.Goals as goal

pub returns-then-depth-ne0 : goal.returns-then-depth-ne0
returns-then-depth-ne0 c = search branching

pub returns-else-depth-ne0 : goal.returns-else-depth-ne0
returns-else-depth-ne0 c = search branching
