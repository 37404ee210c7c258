-- `read_jcal_parameters::good::are_encoded` meets its contract.
use Rattle.read_jcal_parameters.specs.laws.Sound.{encodes_binary, encodes_other}
use borrow.Author.Rules.{rules}
use Rattle.read_jcal_parameters.proofs.good.are_encoded.Goals as goal

pub returns-then-t-ne-BINARY : goal.returns-then-t-ne-BINARY
returns-then-t-ne-BINARY c = search (encodes_binary, encodes_other, rules)

pub returns-else-t-ne-BINARY : goal.returns-else-t-ne-BINARY
returns-else-t-ne-BINARY c = search (encodes_binary, encodes_other, rules)
