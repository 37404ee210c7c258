-- `read_jcal_value::exponent_at` meets its contract.
use Rattle.read_jcal_value.specs.laws.Number.{numbering}
use Rattle.read_jcal_value.proofs.number.exponent_at.Goals as goal

pub overflow_add-e : goal.overflow_add-e
overflow_add-e c = search numbering

pub smaller-c-requires : goal.smaller-c-requires
smaller-c-requires c = search numbering

pub is_negative-down-requires : goal.is_negative-down-requires
is_negative-down-requires c = search numbering

pub after_sign-b-requires : goal.after_sign-b-requires
after_sign-b-requires c = search numbering

pub overflow_add-s : goal.overflow_add-s
overflow_add-s c = search numbering

pub digits_worth-worth-requires : goal.digits_worth-worth-requires
digits_worth-worth-requires c = search numbering

pub returns : goal.returns
returns c = search numbering
