-- `read_jcal_value::signed` meets its contract.
use Rattle.read_jcal_value.specs.laws.Number.{signing}
use Rattle.read_jcal_value.proofs.number.signed.Goals as goal

pub most_of-most-requires : goal.most_of-most-requires
most_of-most-requires c = search signing

pub returns-then-most-n : goal.returns-then-most-n
returns-then-most-n c = search signing

pub returns-then-n-eq0 : goal.returns-then-n-eq0
returns-then-n-eq0 c = search signing

pub overflow_cast-result : goal.overflow_cast-result
overflow_cast-result c = search signing

pub returns : goal.returns
returns c = search signing
