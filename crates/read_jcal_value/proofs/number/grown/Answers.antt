-- `read_jcal_value::grown` meets its contract.
use Rattle.read_jcal_value.specs.laws.Digits.{growing}
use Rattle.read_jcal_value.proofs.number.grown.Goals as goal

pub returns-then-cap-v : goal.returns-then-cap-v
returns-then-cap-v c = search growing

pub digit_worth-d-requires : goal.digit_worth-d-requires
digit_worth-d-requires c = search growing

pub overflow_mul-v : goal.overflow_mul-v
overflow_mul-v c = search growing

pub overflow_add-v : goal.overflow_add-v
overflow_add-v c = search growing

pub smaller-requires : goal.smaller-requires
smaller-requires c = search growing

pub returns : goal.returns
returns c = search growing
