-- `sink::onward` meets its contract.
use Rattle.sink.specs.Sink.{far}
use Rattle.sink.specs.laws.Sink.{writing}
use Rattle.sink.proofs.onward.Goals as goal

pub returns-then-at-ge9223372036854775808 : goal.returns-then-at-ge9223372036854775808
unfolding far
returns-then-at-ge9223372036854775808 c = search writing

pub overflow_sub-at : goal.overflow_sub-at
unfolding far
overflow_sub-at c = search writing

pub overflow_add-result : goal.overflow_add-result
unfolding far
overflow_add-result c = search writing

pub returns-then-n-at : goal.returns-then-n-at
unfolding far
returns-then-n-at c = search writing

pub returns : goal.returns
unfolding far
returns c = search writing
