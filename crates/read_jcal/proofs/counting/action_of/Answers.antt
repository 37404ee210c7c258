-- `read_jcal::action_of` meets its contract.
use Rattle.read_jcal.specs.laws.Counting.{words}
use Rattle.read_jcal.proofs.counting.action_of.Goals as goal

pub first_action-requires : goal.first_action-requires
first_action-requires c = search words

pub returns-then-p-eq-ACTION : goal.returns-then-p-eq-ACTION
returns-then-p-eq-ACTION c = search words

pub returns : goal.returns
returns c = search words
