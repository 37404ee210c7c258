-- `names::packed::grown` meets its contract.
use Rattle.octets.specs.laws.Pick.{branching}
use Rattle.names.specs.Packing.{grow_high, grow_low}
use Rattle.names.proofs.packed.grown.Goals.{else-v-lt-DIGITS-via-then-v-lt-DIGITS+else-high-lt-FULL, else-v-lt-DIGITS-via-else-v-lt-DIGITS}
use Rattle.names.proofs.packed.grown.Goals as goal

pub returns-then-high-lt-FULL : goal.returns-then-high-lt-FULL
unfolding grow_high grow_low
returns-then-high-lt-FULL c = (search branching, search branching)

pub returns : goal.returns
unfolding grow_high grow_low
returns c = elim c.else-v-lt-DIGITS.branch [ else-v-lt-DIGITS-via-then-v-lt-DIGITS+else-high-lt-FULL w ↦ (search branching, search branching) | else-v-lt-DIGITS-via-else-v-lt-DIGITS w ↦ (search branching, search branching) ]
