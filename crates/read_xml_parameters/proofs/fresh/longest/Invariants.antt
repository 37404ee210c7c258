-- `read_xml_parameters::longest` meets its contract.
use mathlib.Core.Path.{◌≡◌, sym, ◌∙◌}
use mathlib.Core.Bool.{true}
use mathlib.Core.List.{[]}
use native.Mathlib.Omega.{arith}
use Prim.Native.Nat.{◌-◌, ◌≤◌}
use Rattle.octets.specs.Lists.{distinct}
use Rattle.distinct.specs.Listed.{word_at, listed}
use Rattle.read_xml_parameters.specs.laws.Fresh.{none_listed}
use borrow.Author.Rules.{rules}
use Rattle.read_xml_parameters.proofs.fresh.longest.Given as goal

abbrev pub invariant-loop-high : goal.invariant-loop-high
invariant-loop-high l = (l.low ≤ l.high) × (l.high ≤ l.n) × (distinct (listed l.low (word_at 0 l.s l.from l.to) []) ≡ true)

abbrev pub decreases-loop-high : goal.decreases-loop-high
decreases-loop-high l = l.high - l.low
