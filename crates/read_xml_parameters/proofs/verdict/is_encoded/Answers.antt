-- `read_xml_parameters::verdict::is_encoded` meets its contract.
use Rattle.read_xml_parameters.specs.laws.Sound.{encoded_other, encoded_free, encoded_binary}
use borrow.Author.Rules.{rules}
use Rattle.read_xml_parameters.proofs.verdict.is_encoded.Goals as goal

pub returns-then-t-eq-BINARY : goal.returns-then-t-eq-BINARY
returns-then-t-eq-BINARY c = search (encoded_binary, rules)

pub returns-then-q-eq-ENCODING : goal.returns-then-q-eq-ENCODING
returns-then-q-eq-ENCODING c = search (encoded_free, rules)

pub returns : goal.returns
returns c = search (encoded_other, rules)
