-- `source::unit_at` meets its contract. Assumes nothing.
use native.Mathlib.Omega.{arith}
use Rattle.source.specs.laws.Stepping.{byte_step, none_step, point_step}
use borrow.Author.Rules.{rules}
use Rattle.source.proofs.points.unit_at.Goals as goal

pub returns-then-u-eq-END : goal.returns-then-u-eq-END
returns-then-u-eq-END c = λ m o f. none_step o f _ c.requires.1 c.if-u-eq-END.true (omega arith)

pub overflow_mul-result : goal.overflow_mul-result
overflow_mul-result c = omega (arith, (c.requires.0.inside c.if-u-eq-END.false).1)

pub returns-then-u-lt-END : goal.returns-then-u-lt-END
returns-then-u-lt-END c = λ m o f. byte_step o f _ c.requires.1 c.if-u-lt-END.true (c.requires.0.inside c.if-u-eq-END.false).0 (c.requires.0.inside c.if-u-eq-END.false).1

pub overflow_sub-u : goal.overflow_sub-u
overflow_sub-u c = omega (arith, c.if-u-eq-END.false)

pub point_unit-requires : goal.point_unit-requires
point_unit-requires c = (omega (arith, c.requires.0.high, c.if-u-eq-END.false), c.requires.0.wide (omega (arith, c.if-u-eq-END.false)), (c.requires.0.inside c.if-u-eq-END.false).1, omega arith)

pub returns : goal.returns
returns c = λ m o f. point_step o f _ c.requires.1 (omega (arith, c.if-u-eq-END.false)) (c.point_unit.ensures m (f.inner (omega (arith, c.if-u-eq-END.false))))
