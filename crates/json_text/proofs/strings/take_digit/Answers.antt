-- `json_text::take_digit` meets its contract. Assumes nothing.
use Rattle.octets.specs.laws.Pick.{branching}
use Rattle.json_text.proofs.strings.take_digit.Goals as goal

pub returns-then-d-eq16 : goal.returns-then-d-eq16
returns-then-d-eq16 c = search branching

pub with_digit-u-requires : goal.with_digit-u-requires
with_digit-u-requires c = search branching

pub take_unit-requires : goal.take_unit-requires
take_unit-requires c = search branching

pub returns-then-k-eq0 : goal.returns-then-k-eq0
returns-then-k-eq0 c = rw (← c.with_digit-u.ensures) (search branching)

pub overflow_sub-result : goal.overflow_sub-result
overflow_sub-result c = search branching

pub returns : goal.returns
returns c = rw (← c.with_digit-u.ensures) (search branching)
