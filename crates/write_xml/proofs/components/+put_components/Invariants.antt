-- `write_xml::components::put_components`, which calls itself, meets its contract. The measure is the levels that are left.
use Prim.Native.Nat.{ℕ, ◌-◌, ◌<◌}
use native.Mathlib.Omega.{arith}
use lib.ListN.{length}
use lib.Seq.{length-take-le}
use borrow.Author.Rules.{rules}
use Rattle.text_entries.specs.laws.Levels.{level_left}
use Rattle.write_xml.specs.laws.Places.{ahead_ready}
use Rattle.write_xml.proofs.Walking.{Walking, inner, inners, inner_at_bare, inner_at_component}
use Rattle.write_xml.proofs.components.+put_components.Given as goal

abbrev pub decreases-put_components : goal.decreases-put_components
decreases-put_components g l = l.left

abbrev pub invariant-loop-at : goal.invariant-loop-at
invariant-loop-at g l = Walking l.edition (inner l.left) g.E.Encoding.encoding l.s l.from l.initial.out l.o l.out l.p l.at

abbrev pub decreases-loop-at : goal.decreases-loop-at
decreases-loop-at g l = length l.s - l.at
