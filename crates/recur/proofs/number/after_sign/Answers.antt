-- `recur::after_sign` meets its contract.
use Rattle.recur.specs.laws.Numeral.{sign_plus, sign_minus, sign_none}
use Rattle.recur.proofs.number.after_sign.Goals as goal

pub returns-then-t-eq-PLUS : goal.returns-then-t-eq-PLUS
returns-then-t-eq-PLUS g c = sign_plus c.front_unit-t.ensures c.if-t-eq-PLUS.true

pub returns-then-t-eq-HYPHEN : goal.returns-then-t-eq-HYPHEN
returns-then-t-eq-HYPHEN g c = sign_minus c.front_unit-t.ensures c.if-t-eq-HYPHEN.true

pub returns : goal.returns
returns g c = sign_none c.front_unit-t.ensures c.if-t-eq-PLUS.false c.if-t-eq-HYPHEN.false
