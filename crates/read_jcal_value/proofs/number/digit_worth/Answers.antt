-- `read_jcal_value::digit_worth` meets its contract.
use Rattle.read_jcal_value.specs.laws.Digits.{digiting}
use Rattle.read_jcal_value.proofs.number.digit_worth.Goals as goal

pub returns-then-u-lt-ZERO : goal.returns-then-u-lt-ZERO
returns-then-u-lt-ZERO c = search digiting

pub returns-then-u-gt-NINE : goal.returns-then-u-gt-NINE
returns-then-u-gt-NINE c = search digiting

pub returns : goal.returns
returns c = search digiting
