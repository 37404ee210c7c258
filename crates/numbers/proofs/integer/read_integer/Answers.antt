-- `numbers::integer::read_integer` meets its contract.
use mathlib.Core.Path.{refl, ◌∙◌}
use Rattle.numbers.specs.laws.ReadInteger.{integer_minus, integer_plus, integer_plain}
use Rattle.numbers.specs.laws.Cursor.{rest_this}
use Rattle.numbers.proofs.integer.read_integer.Goals as goal
use Rattle.numbers.proofs.integer.read_integer.Goals.{then-sign-eq-PLUS, else-sign-eq-PLUS}

pub returns-in_err-magnitude : goal.returns-in_err-magnitude
returns-in_err-magnitude g c = rw c.from_residual.ensures (integer_minus (rest_this c.unit-sign.ensures 45 c.if-sign-eq-HYPHEN.true refl) (c.number.ensures ∙ c.in_err-magnitude.was))

pub returns-then-sign-eq-HYPHEN : goal.returns-then-sign-eq-HYPHEN
returns-then-sign-eq-HYPHEN g c = integer_minus (rest_this c.unit-sign.ensures 45 c.if-sign-eq-HYPHEN.true refl) (c.number.ensures ∙ c.in_ok-magnitude.was)

pub returns-in_err-magnitude-2 : goal.returns-in_err-magnitude-2
returns-in_err-magnitude-2 g c =
    rw c.from_residual-in_err-magnitude-2.ensures
    (elim c.if-sign-eq-PLUS.branch [
      | then-sign-eq-PLUS w ↦ integer_plus (rest_this c.unit-sign.ensures 43 w.if-sign-eq-PLUS.true refl) (rw w.first-is at (c.number-2.ensures ∙ c.in_err-magnitude-2.was))
      | else-sign-eq-PLUS w ↦ integer_plain c.unit-sign.ensures c.if-sign-eq-HYPHEN.false w.if-sign-eq-PLUS.false (rw w.first-is at (c.number-2.ensures ∙ c.in_err-magnitude-2.was))
    ])

pub returns : goal.returns
returns g c =
    elim c.if-sign-eq-PLUS.branch [
      | then-sign-eq-PLUS w ↦ integer_plus (rest_this c.unit-sign.ensures 43 w.if-sign-eq-PLUS.true refl) (rw w.first-is at (c.number-2.ensures ∙ c.in_ok-magnitude-2.was))
      | else-sign-eq-PLUS w ↦ integer_plain c.unit-sign.ensures c.if-sign-eq-HYPHEN.false w.if-sign-eq-PLUS.false (rw w.first-is at (c.number-2.ensures ∙ c.in_ok-magnitude-2.was))
    ]
