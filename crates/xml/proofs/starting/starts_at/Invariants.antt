-- `xml::starting::starts_at` meets its contract.
use Prim.Native.Nat.{◌-◌}
use lib.ListN.{length}
use borrow.Author.Rules.{rules}
use Rattle.xml.specs.laws.Starting.{Starting, starting}
use Rattle.xml.proofs.starting.starts_at.Given as goal

abbrev pub invariant-loop-j : goal.invariant-loop-j
invariant-loop-j l = Starting l.w l.s l.at l.j

abbrev pub decreases-loop-j : goal.decreases-loop-j
decreases-loop-j l = length l.w - l.j
