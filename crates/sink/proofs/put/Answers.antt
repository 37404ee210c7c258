-- `sink::put` meets its contract.
use Rattle.sink.specs.laws.Sink.{writing}
use Rattle.sink.proofs.put.Goals as goal

pub bounds-out-at : goal.bounds-out-at
bounds-out-at c = search writing

pub overflow_add-result : goal.overflow_add-result
overflow_add-result c = search writing

pub shape_of-out-then-at-out : goal.shape_of-out-then-at-out
shape_of-out-then-at-out c = search writing

pub returns-then-at-out : goal.returns-then-at-out
returns-then-at-out c = search writing

pub overflow_add-result-then-at-lt9223372036854775808 : goal.overflow_add-result-then-at-lt9223372036854775808
overflow_add-result-then-at-lt9223372036854775808 c = search writing

pub returns-then-at-lt9223372036854775808 : goal.returns-then-at-lt9223372036854775808
returns-then-at-lt9223372036854775808 c = search writing

pub returns : goal.returns
returns c = search writing
