-- `distinct::keep` meets its contract.
use native.Mathlib.Omega.{arith}
use borrow.Author.Rules.{rules}
use Rattle.octets.specs.laws.Pick.{joined_tests}
use Rattle.distinct.specs.laws.Keeping.{keeps_there, keeps_not}
use Rattle.distinct.proofs.cuts.keep.Goals as goal

pub returns-then-k-to : goal.returns-then-k-to
returns-then-k-to c = keeps_there (omega arith) (omega arith) (omega arith) (omega arith)

pub returns-else-k-to : goal.returns-else-k-to
returns-else-k-to c = keeps_not (search joined_tests)

pub returns-else-k-from : goal.returns-else-k-from
returns-else-k-from c = keeps_not (search joined_tests)

pub returns-else-e-lt65536 : goal.returns-else-e-lt65536
returns-else-e-lt65536 c = keeps_not (search joined_tests)

pub returns-else-a-lt65536 : goal.returns-else-a-lt65536
returns-else-a-lt65536 c = keeps_not (search joined_tests)
