-- `numbers::integer::put_whole` meets its contract.
use Rattle.numbers.specs.laws.PutInteger.{putting}
use Rattle.numbers.proofs.integer.put_whole.Goals as goal

pub returns-then-neg : goal.returns-then-neg
returns-then-neg c = search putting

pub returns : goal.returns
returns c = search putting
