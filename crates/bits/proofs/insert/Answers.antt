-- `bits::insert` meets its contract.
use Rattle.bits.specs.laws.Masks.{has_insert}
use Rattle.bits.proofs.insert.Goals as goal

pub returns : goal.returns
returns c = λ j. has_insert _ _ j c.requires
