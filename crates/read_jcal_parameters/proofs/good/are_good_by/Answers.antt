-- `read_jcal_parameters::good::are_good_by` meets its contract.
use Rattle.read_jcal_parameters.specs.laws.Sound.{good_again, good_unsound, good_encoded}
use borrow.Author.Rules.{rules}
use Rattle.read_jcal_parameters.proofs.good.are_good_by.Goals as goal

pub returns-then-are_sound : goal.returns-then-are_sound
returns-then-are_sound c = search (good_encoded, good_unsound, good_again, rules)

pub returns-else-are_sound : goal.returns-else-are_sound
returns-else-are_sound c = search (good_encoded, good_unsound, good_again, rules)
