-- `read_xml_parameters::verdict::is_against` meets its contract.
use Rattle.read_xml_parameters.specs.laws.Told.{against_again, against_not, against_sound}
use borrow.Author.Rules.{rules}
use Rattle.read_xml_parameters.proofs.verdict.is_against.Goals as goal

pub returns-then-again : goal.returns-then-again
returns-then-again c = search (against_again, rules)

pub returns-then-sound : goal.returns-then-sound
returns-then-sound c = search (against_not, rules)

pub returns : goal.returns
returns c = search (against_sound, rules)
