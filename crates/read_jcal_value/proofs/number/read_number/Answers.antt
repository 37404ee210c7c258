-- `read_jcal_value::read_number` meets its contract.
use Rattle.read_jcal_value.specs.laws.Number.{numbering}
use Rattle.read_jcal_value.proofs.number.read_number.Goals as goal

pub is_negative-neg-requires : goal.is_negative-neg-requires
is_negative-neg-requires c = search numbering

pub after_sign-a-requires : goal.after_sign-a-requires
after_sign-a-requires c = search numbering

pub magnitude-n-requires : goal.magnitude-n-requires
magnitude-n-requires c = search numbering

pub signed-requires : goal.signed-requires
signed-requires c = search numbering

pub returns : goal.returns
returns c = search numbering
