-- `read_xml::root::root_verdict` meets its contract.
use Rattle.read_xml.specs.laws.Roots.{roots}
use Rattle.read_xml.proofs.root.root_verdict.Goals as goal

pub returns-then-is_word : goal.returns-then-is_word
returns-then-is_word c = search roots

pub returns-else-is_word : goal.returns-else-is_word
returns-else-is_word c = search roots
