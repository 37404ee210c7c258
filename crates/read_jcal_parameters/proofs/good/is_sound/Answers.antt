-- `read_jcal_parameters::good::is_sound` meets its contract.
use Rattle.read_jcal_parameters.specs.laws.Sound.{sound_denied, sound_values}
use borrow.Author.Rules.{rules}
use Rattle.read_jcal_parameters.proofs.good.is_sound.Goals as goal

pub returns-then-permits_parameter : goal.returns-then-permits_parameter
returns-then-permits_parameter c = search (sound_values, sound_denied, rules)

pub returns-else-permits_parameter : goal.returns-else-permits_parameter
returns-else-permits_parameter c = search (sound_values, sound_denied, rules)
