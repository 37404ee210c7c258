-- `folding::is_blank` meets its contract.
use Rattle.octets.specs.Pick.{◌or◌}
use borrow.Author.Rules.{rules}
use Rattle.folding.proofs.unfolding.is_blank.Goals as goal

pub returns : goal.returns
unfolding ◌or◌
returns c = search rules
