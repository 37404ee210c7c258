-- `read_jcal_value::after_sign` meets its contract.
use Rattle.read_jcal_value.specs.laws.Number.{signs, sign_none}
use Rattle.read_jcal_value.proofs.number.after_sign.Goals as goal

pub bounds-s-at : goal.bounds-s-at
bounds-s-at c = search signs

pub wide-u-requires : goal.wide-u-requires
wide-u-requires c = search signs

pub overflow_add-result : goal.overflow_add-result
overflow_add-result c = search signs

pub returns-then-u-eq-HYPHEN : goal.returns-then-u-eq-HYPHEN
returns-then-u-eq-HYPHEN c = search signs

pub overflow_add-result-then-u-eq-PLUS : goal.overflow_add-result-then-u-eq-PLUS
overflow_add-result-then-u-eq-PLUS c = search signs

pub returns-then-u-eq-PLUS : goal.returns-then-u-eq-PLUS
returns-then-u-eq-PLUS c = search signs

pub returns-then-at-s : goal.returns-then-at-s
returns-then-at-s c = sign_none c.args.s.now c.args.at c.if-at-s.true c.wide-u.ensures c.if-u-eq-HYPHEN.false c.if-u-eq-PLUS.false

pub returns : goal.returns
returns c = search signs
