-- `read_xml_parameters::verdict::judge` meets its contract.
use Rattle.read_xml_parameters.specs.laws.Told.{judgements}
use Rattle.read_xml_parameters.proofs.verdict.judge.Goals as goal

pub returns-then-is_bad_name : goal.returns-then-is_bad_name
returns-then-is_bad_name c = search judgements

pub returns-then-at-end : goal.returns-then-at-end
returns-then-at-end c = search judgements

pub returns-then-is_against : goal.returns-then-is_against
returns-then-is_against c = search judgements

pub returns-then-has_element : goal.returns-then-has_element
returns-then-has_element c = search judgements

pub returns-else-has_element : goal.returns-else-has_element
returns-else-has_element c = search judgements
