-- `read_jcal::type_word` meets its contract.
use Rattle.read_jcal.specs.laws.Types.{typing}
use Rattle.read_jcal.proofs.types.type_word.Goals as goal

pub returns : goal.returns
returns c = search typing
