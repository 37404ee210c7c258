-- `read_xml::children::child_word` meets its contract.
use Rattle.read_xml.specs.laws.Turning.{wording}
use Rattle.read_xml.proofs.children.child_word.Goals as goal

pub returns-then-is_word : goal.returns-then-is_word
returns-then-is_word c = search wording

pub returns-then-p-eq-GEO : goal.returns-then-p-eq-GEO
returns-then-p-eq-GEO c = search wording

pub returns-then-p-eq-REQUEST_STATUS : goal.returns-then-p-eq-REQUEST_STATUS
returns-then-p-eq-REQUEST_STATUS c = search wording

pub returns-else-p-eq-REQUEST_STATUS : goal.returns-else-p-eq-REQUEST_STATUS
returns-else-p-eq-REQUEST_STATUS c = search wording
