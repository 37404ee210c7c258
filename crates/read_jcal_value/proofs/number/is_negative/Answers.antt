-- `read_jcal_value::is_negative` meets its contract.
use Rattle.read_jcal_value.specs.laws.Number.{signs}
use Rattle.read_jcal_value.proofs.number.is_negative.Goals as goal

pub bounds-s-at : goal.bounds-s-at
bounds-s-at c = search signs

pub wide-u-requires : goal.wide-u-requires
wide-u-requires c = search signs

pub returns-then-at-s : goal.returns-then-at-s
returns-then-at-s c = search signs

pub returns : goal.returns
returns c = search signs
