-- `read_text_line::carried::starts_xml` meets its contract.
use mathlib.Core.List.{[], ◌∷◌}
use native.Mathlib.Omega.{arith}
use Rattle.read_text_line.specs.laws.Carried.{starts_more, starts_not, starts_last}
use Rattle.read_text_line.proofs.carried.starts_xml.Goals as goal

pub returns-then-mu-eq-UPPER_M : goal.returns-then-mu-eq-UPPER_M
returns-then-mu-eq-UPPER_M g c = starts_more c.unit-x.ensures 88 (77 ∷ 76 ∷ []) c.upper_unit-xu.ensures (λ z. omega arith) c.if-xu-eq-UPPER_X.true (starts_more c.unit-m.ensures 77 (76 ∷ []) c.upper_unit-mu.ensures (λ z. omega arith) c.if-mu-eq-UPPER_M.true (starts_last c.unit-l.ensures 76 c.upper_unit-lu.ensures (λ z. omega arith)))

pub returns-then-xu-eq-UPPER_X : goal.returns-then-xu-eq-UPPER_X
returns-then-xu-eq-UPPER_X g c = starts_more c.unit-x.ensures 88 (77 ∷ 76 ∷ []) c.upper_unit-xu.ensures (λ z. omega arith) c.if-xu-eq-UPPER_X.true (starts_not c.unit-m.ensures 77 (76 ∷ []) c.upper_unit-mu.ensures (λ z. omega arith) c.if-mu-eq-UPPER_M.false)

pub returns : goal.returns
returns g c = starts_not c.unit-x.ensures 88 (77 ∷ 76 ∷ []) c.upper_unit-xu.ensures (λ z. omega arith) c.if-xu-eq-UPPER_X.false
