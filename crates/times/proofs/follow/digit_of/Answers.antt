-- `times::follow::digit_of` meets its contract.
use native.Mathlib.Omega.{arith}
use Rattle.octets.specs.laws.Pick.{branching_joined}
use Rattle.times.proofs.follow.digit_of.Goals as goal

pub returns-then-u-lt-ZERO : goal.returns-then-u-lt-ZERO
returns-then-u-lt-ZERO c = (search branching_joined, omega arith)

pub returns-then-u-gt-NINE : goal.returns-then-u-gt-NINE
returns-then-u-gt-NINE c = (search branching_joined, omega arith)

pub returns : goal.returns
returns c = (search branching_joined, omega arith)
