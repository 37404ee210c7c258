-- `read_xml::properties::property_verdict` meets its contract.
use Rattle.read_xml.specs.laws.Properties.{propertying}
use Rattle.read_xml.proofs.properties.property_verdict.Goals as goal

pub returns-then-bad_name : goal.returns-then-bad_name
returns-then-bad_name c = search propertying

pub returns-then-is_misplaced : goal.returns-then-is_misplaced
returns-then-is_misplaced c = search propertying

pub returns-then-lacks_encoding : goal.returns-then-lacks_encoding
returns-then-lacks_encoding c = search propertying

pub returns : goal.returns
returns c = search propertying
