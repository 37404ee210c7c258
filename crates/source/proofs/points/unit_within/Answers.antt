-- `source::unit_within` meets its contract. Assumes nothing.
use native.Mathlib.Omega.{arith}
use Rattle.source.specs.laws.Stepping.{astray_step, within_step}
use borrow.Author.Rules.{rules}
use Rattle.source.proofs.points.unit_within.Goals as goal

pub returns-then-u-le-END : goal.returns-then-u-le-END
returns-then-u-le-END c = λ m o f. astray_step o f _ c.requires.1 c.if-u-le-END.true (omega arith)

pub overflow_sub-q : goal.overflow_sub-q
overflow_sub-q c = omega (arith, c.requires.2)

pub overflow_add-q : goal.overflow_add-q
overflow_add-q c = omega (arith, c.requires.2, c.requires.3)

pub point_unit-requires : goal.point_unit-requires
point_unit-requires c = (omega (arith, c.requires.0.high), c.requires.0.wide c.if-u-le-END.false, (c.requires.0.inside (λ e. omega (arith, e, c.if-u-le-END.false))).1, omega (arith, c.requires.2, c.requires.3))

pub returns : goal.returns
returns c = λ m o f. within_step o f _ c.requires.1 c.requires.2 c.if-u-le-END.false (c.point_unit.ensures m (f.inner c.if-u-le-END.false))
