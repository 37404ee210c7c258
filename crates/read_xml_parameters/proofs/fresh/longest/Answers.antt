-- `read_xml_parameters::longest` meets its contract.
use mathlib.Core.Path.{◌≡◌, sym, ◌∙◌}
use mathlib.Core.Bool.{true}
use mathlib.Core.List.{[]}
use native.Mathlib.Omega.{arith}
use Prim.Native.Nat.{◌-◌, ◌≤◌}
use Rattle.octets.specs.Lists.{distinct}
use Rattle.distinct.specs.Listed.{word_at, listed}
use Rattle.read_xml_parameters.specs.laws.Fresh.{none_listed}
use borrow.Author.Rules.{rules}
use Rattle.read_xml_parameters.proofs.fresh.longest.Goals as goal

pub returns-then-all : goal.returns-then-all
returns-then-all c = (omega arith, sym c.are_distinct-all.ensures ∙ c.if-all.true)

pub loop-high-init : goal.loop-high-init
loop-high-init c = (omega arith, omega arith, none_listed _)

pub loop-high-preserved-then-some : goal.loop-high-preserved-then-some
loop-high-preserved-then-some c = (omega arith, omega arith, sym c.are_distinct-some.ensures ∙ c.if-some.true)

pub loop-high-preserved : goal.loop-high-preserved
loop-high-preserved c = (omega arith, omega arith, c.loop-high.invariant.2)

pub returns : goal.returns
returns c = (omega arith, c.loop-high.invariant.2)
