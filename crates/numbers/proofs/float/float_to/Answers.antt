-- `numbers::float::float_to` meets its contract.
use mathlib.Core.Path.{refl}
use Rattle.octets.specs.Pick.{◌and◌}
use Rattle.numbers.specs.laws.ReadFloat.{float_good, float_bad}
use Rattle.numbers.proofs.float.float_to.Goals as goal

pub returns-in_err-fraction : goal.returns-in_err-fraction
returns-in_err-fraction g c = rw c.from_residual.ensures (float_bad _ _ _ _ c.sign_end-first.ensures c.read_shape.ensures c.in_err-fraction.was)

pub returns-then-not-is_zero : goal.returns-then-not-is_zero
unfolding ◌and◌
returns-then-not-is_zero g c =
    float_good _ _ _ _ c.sign_end-first.ensures c.read_shape.ensures _ c.in_ok-fraction.was c.zeros_end-whole.ensures c.is_zero.ensures
    c.has_minus-negative.ensures (rw c.if-not-is_zero.true refl)

pub returns-else-not-is_zero : goal.returns-else-not-is_zero
unfolding ◌and◌
returns-else-not-is_zero g c =
    float_good _ _ _ _ c.sign_end-first.ensures c.read_shape.ensures _ c.in_ok-fraction.was c.zeros_end-whole.ensures c.is_zero.ensures
    refl (rw c.if-not-is_zero.false refl)
