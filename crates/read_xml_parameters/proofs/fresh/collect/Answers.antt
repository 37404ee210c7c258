-- `read_xml_parameters::collect` meets its contract.
use mathlib.Core.Path.{◌≡◌, refl}
use native.Mathlib.Omega.{arith}
use Prim.Native.Nat.{◌-◌}
use lib.ListN.{length}
use Rattle.distinct.specs.laws.Keeping.{keeps}
use Rattle.read_xml_parameters.specs.laws.Children.{child_less}
use Rattle.read_xml_parameters.specs.laws.Fresh.{Collecting, collect_start, collect_more, collect_none}
use borrow.Author.Rules.{rules}
use Rattle.read_xml_parameters.proofs.fresh.collect.Goals as goal

pub loop-from-init : goal.loop-from-init
loop-from-init c = (collect_start _ _ _ _, refl, refl)

pub overflow_add-k : goal.overflow_add-k
overflow_add-k c = omega (arith, (keeps c.keep-kept.ensures c.if-kept.true).room)

pub loop-from-smaller : goal.loop-from-smaller
loop-from-smaller c = child_less c.next_child-n.ensures c.if-n.true

pub loop-from-preserved : goal.loop-from-preserved
loop-from-preserved c = (collect_more c.loop-from.invariant.0 c.next_child-n.ensures c.if-n.true (keeps c.keep-kept.ensures c.if-kept.true), search rules, search rules)

pub returns-else-kept : goal.returns-else-kept
returns-else-kept c = collect_none _ _ _ _

pub returns-else-n : goal.returns-else-n
returns-else-n c = c.loop-from.invariant.0.kept
