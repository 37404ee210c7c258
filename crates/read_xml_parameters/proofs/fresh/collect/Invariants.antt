-- `read_xml_parameters::collect` meets its contract.
use mathlib.Core.Path.{◌≡◌, refl}
use native.Mathlib.Omega.{arith}
use Prim.Native.Nat.{◌-◌}
use lib.ListN.{length}
use Rattle.distinct.specs.laws.Keeping.{keeps}
use Rattle.read_xml_parameters.specs.laws.Children.{child_less}
use Rattle.read_xml_parameters.specs.laws.Fresh.{Collecting, collect_start, collect_more, collect_none}
use borrow.Author.Rules.{rules}
use Rattle.read_xml_parameters.proofs.fresh.collect.Given as goal

abbrev pub invariant-loop-from : goal.invariant-loop-from
invariant-loop-from l = Collecting l.s l.inside l.from l.to l.k l.c × (length l.from ≡ length l.initial.from) × (length l.to ≡ length l.initial.to)

abbrev pub decreases-loop-from : goal.decreases-loop-from
decreases-loop-from l = length l.s - l.c
