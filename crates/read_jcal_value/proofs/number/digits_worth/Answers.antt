-- `read_jcal_value::digits_worth` meets its contract.
use Rattle.read_jcal_value.specs.laws.Digits.{walking}
use Rattle.read_jcal_value.proofs.number.digits_worth.Goals as goal

pub loop-i-init : goal.loop-i-init
loop-i-init c = search walking

pub bounds-s-i : goal.bounds-s-i
bounds-s-i c = search walking

pub wide-u-requires : goal.wide-u-requires
wide-u-requires c = search walking

pub next_worth-n-requires : goal.next_worth-n-requires
next_worth-n-requires c = search walking

pub one_less-m-requires : goal.one_less-m-requires
one_less-m-requires c = search walking

pub overflow_add-i : goal.overflow_add-i
overflow_add-i c = search walking

pub loop-i-smaller : goal.loop-i-smaller
loop-i-smaller c = search walking

pub loop-i-preserved : goal.loop-i-preserved
loop-i-preserved c = search walking

pub returns : goal.returns
returns c = search walking
