-- `distinct::compare_from` meets its contract.
use mathlib.Core.Path.{◌≡◌, refl, sym, ◌∙◌}
use Rattle.distinct.specs.Order.{order}
use Rattle.distinct.specs.laws.Order.{order_less, order_more, order_end, order_on, order_nearer}
use Rattle.source.specs.Source.{rest}
use Rattle.octets.specs.Class.{upper}
use Prim.Native.Nat.{◌*◌, ◌-◌}
use lib.ListN.{length}
use borrow.Author.Rules.{rules}
use Rattle.distinct.proofs.compare.compare_from.Goals as goal

pub loop-x-init : goal.loop-x-init
loop-x-init g c = refl

pub returns-then-xu-yu : goal.returns-then-xu-yu
returns-then-xu-yu g c = order_less c.unit-x.ensures c.unit-y.ensures c.upper_unit-xu.ensures c.upper_unit-yu.ensures c.if-xu-yu.true ∙ sym c.loop-x.invariant

pub returns-then-yu-xu : goal.returns-then-yu-xu
returns-then-yu-xu g c = order_more c.unit-x.ensures c.unit-y.ensures c.upper_unit-xu.ensures c.upper_unit-yu.ensures c.if-xu-yu.false c.if-yu-xu.true ∙ sym c.loop-x.invariant

pub returns-then-x-eq-END : goal.returns-then-x-eq-END
returns-then-x-eq-END g c = order_end c.unit-x.ensures c.unit-y.ensures c.upper_unit-xu.ensures c.upper_unit-yu.ensures c.if-xu-yu.false c.if-yu-xu.false c.if-x-eq-END.true ∙ sym c.loop-x.invariant

pub loop-x-smaller : goal.loop-x-smaller
loop-x-smaller g c = order_nearer c.unit-x.ensures c.if-x-eq-END.false

pub loop-x-preserved : goal.loop-x-preserved
loop-x-preserved g c = c.loop-x.invariant ∙ order_on c.unit-x.ensures c.unit-y.ensures c.upper_unit-xu.ensures c.upper_unit-yu.ensures c.if-xu-yu.false c.if-yu-xu.false c.if-x-eq-END.false
