-- `schema::numbers::parameter_3` meets its contract.
use Rattle.names.specs.Packing.{lookup}
use Rattle.names.specs.laws.Packing.{looking}
use Rattle.schema.proofs.numbers.parameter_3.Goals as goal

pub returns-then-low-high : goal.returns-then-low-high
unfolding lookup
returns-then-low-high c = search looking depth 12

pub returns-then-low-high-2 : goal.returns-then-low-high-2
unfolding lookup
returns-then-low-high-2 c = search looking depth 12

pub returns-then-low-high-3 : goal.returns-then-low-high-3
unfolding lookup
returns-then-low-high-3 c = search looking depth 12

pub returns-then-low-high-4 : goal.returns-then-low-high-4
unfolding lookup
returns-then-low-high-4 c = search looking depth 12

pub returns-then-low-high-5 : goal.returns-then-low-high-5
unfolding lookup
returns-then-low-high-5 c = search looking depth 12

pub returns-then-low-high-6 : goal.returns-then-low-high-6
unfolding lookup
returns-then-low-high-6 c = search looking depth 12

pub returns-then-low-high-7 : goal.returns-then-low-high-7
unfolding lookup
returns-then-low-high-7 c = search looking depth 12

pub returns : goal.returns
unfolding lookup
returns c = search looking depth 12
