-- `read_jcal_value::is_word` meets its contract.
use Rattle.std.proofs.Common.{rules}
use Rattle.read_jcal_value.specs.laws.Values.{set_told}
use Rattle.read_jcal_value.proofs.valued.is_word.Goals as goal

pub returns : goal.returns
returns c = search (set_told, rules)
