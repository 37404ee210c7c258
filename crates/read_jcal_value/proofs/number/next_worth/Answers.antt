-- `read_jcal_value::next_worth` meets its contract.
use Rattle.read_jcal_value.specs.laws.Digits.{nexting}
use Rattle.read_jcal_value.proofs.number.next_worth.Goals as goal

pub returns-then-u-eq-ZERO : goal.returns-then-u-eq-ZERO
returns-then-u-eq-ZERO c = search nexting

pub returns-then-k-eq0 : goal.returns-then-k-eq0
returns-then-k-eq0 c = search nexting

pub grown-requires : goal.grown-requires
grown-requires c = search nexting

pub returns : goal.returns
returns c = search nexting
