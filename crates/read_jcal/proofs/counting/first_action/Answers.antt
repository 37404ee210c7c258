-- `read_jcal::first_action` meets its contract.
use Rattle.read_jcal.specs.laws.Counting.{words}
use Rattle.read_jcal.proofs.counting.first_action.Goals as goal

pub returns-then-is_string : goal.returns-then-is_string
returns-then-is_string c = search words

pub returns : goal.returns
returns c = search words
