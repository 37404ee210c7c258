-- `read_xml_parameters::verdict::is_sound` meets its contract.
use Rattle.read_xml_parameters.specs.laws.Sound.{sound_denied, sound_other, sound_uncoded, sound_spelled}
use borrow.Author.Rules.{rules}
use Rattle.read_xml_parameters.proofs.verdict.is_sound.Goals as goal

pub returns-then-encoded : goal.returns-then-encoded
returns-then-encoded c = search (sound_spelled, rules)

pub returns-then-good : goal.returns-then-good
returns-then-good c = search (sound_uncoded, rules)

pub returns-then-permitted : goal.returns-then-permitted
returns-then-permitted c = search (sound_other, rules)

pub returns : goal.returns
returns c = search (sound_denied, rules)
