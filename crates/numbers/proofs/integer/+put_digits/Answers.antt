-- `numbers::integer::put_digits`, which calls itself, meets its contract.
use Rattle.numbers.specs.laws.PutInteger.{putting}
use Rattle.numbers.proofs.integer.+put_digits.Goals as goal

pub digit-requires : goal.digit-requires
digit-requires t c = search putting

pub put-requires : goal.put-requires
put-requires t c = search putting

pub shape_of-out-then-left-eq0 : goal.shape_of-out-then-left-eq0
shape_of-out-then-left-eq0 t c = search putting

pub returns-then-left-eq0 : goal.returns-then-left-eq0
returns-then-left-eq0 t c = search putting

pub digit-requires-then-n-lt10 : goal.digit-requires-then-n-lt10
digit-requires-then-n-lt10 t c = search putting

pub put-requires-then-n-lt10 : goal.put-requires-then-n-lt10
put-requires-then-n-lt10 t c = search putting

pub shape_of-out-then-n-lt10 : goal.shape_of-out-then-n-lt10
shape_of-out-then-n-lt10 t c = search putting

pub returns-then-n-lt10 : goal.returns-then-n-lt10
returns-then-n-lt10 t c = search putting

pub overflow_sub-left : goal.overflow_sub-left
overflow_sub-left t c = search putting

pub put_digits-q-requires : goal.put_digits-q-requires
put_digits-q-requires t c = search putting

pub digit-requires-2 : goal.digit-requires-2
digit-requires-2 t c = search putting

pub put-requires-2 : goal.put-requires-2
put-requires-2 t c = search putting

pub shape_of-out : goal.shape_of-out
shape_of-out t c = search putting

pub returns : goal.returns
returns t c = search putting
