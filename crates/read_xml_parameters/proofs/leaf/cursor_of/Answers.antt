-- `read_xml_parameters::leaf::cursor_of` meets its contract.
use borrow.Author.Rules.{rules}
use Rattle.read_xml_nodes.specs.laws.Characters.{characters_at}
use Rattle.read_xml_parameters.proofs.leaf.cursor_of.Goals as goal

pub returns : goal.returns
returns c = characters_at _ _
