-- `times::offset::sign` meets its contract.
use Rattle.octets.specs.laws.Pick.{branching}
use Rattle.times.specs.OffsetWritten.{sign_of}
use Rattle.times.proofs.offset.sign.Goals as goal

pub returns-then-negative : goal.returns-then-negative
unfolding sign_of
returns-then-negative c = search branching

pub returns-else-negative : goal.returns-else-negative
unfolding sign_of
returns-else-negative c = search branching
