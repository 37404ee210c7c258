-- `distinct::compare_from` meets its contract.
use mathlib.Core.Path.{◌≡◌, refl, sym, ◌∙◌}
use Rattle.distinct.specs.Order.{order}
use Rattle.distinct.specs.laws.Order.{order_less, order_more, order_end, order_on, order_nearer}
use Rattle.source.specs.Source.{rest}
use Rattle.octets.specs.Class.{upper}
use Prim.Native.Nat.{◌*◌, ◌-◌}
use lib.ListN.{length}
use borrow.Author.Rules.{rules}
use Rattle.distinct.proofs.compare.compare_from.Given as goal

abbrev pub invariant-loop-x : goal.invariant-loop-x
invariant-loop-x g l = order (upper (rest g.E.Encoding.encoding l.s l.a)) (upper (rest g.E.Encoding.encoding l.t l.b)) ≡ order (upper (rest g.E.Encoding.encoding l.s l.c)) (upper (rest g.E.Encoding.encoding l.t l.d))

abbrev pub decreases-loop-x : goal.decreases-loop-x
decreases-loop-x g l = 4 * length l.s - l.c
