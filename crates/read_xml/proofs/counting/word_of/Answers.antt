-- `read_xml::counting::word_of` meets its contract.
use Rattle.read_xml.specs.laws.Counting.{counting}
use Rattle.read_xml.proofs.counting.word_of.Goals as goal

pub returns-then-p-eq-ACTION : goal.returns-then-p-eq-ACTION
returns-then-p-eq-ACTION c = search counting
