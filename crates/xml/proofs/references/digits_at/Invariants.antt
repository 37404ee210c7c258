-- `xml::references::digits_at` meets its contract.
use Prim.Native.Nat.{◌-◌}
use lib.ListN.{length}
use borrow.Author.Rules.{rules}
use Rattle.xml.specs.laws.Digits.{Counting, counting}
use Rattle.xml.proofs.references.digits_at.Given as goal

abbrev pub invariant-loop-i : goal.invariant-loop-i
invariant-loop-i l = Counting l.hex l.s l.at l.i l.v

abbrev pub decreases-loop-i : goal.decreases-loop-i
decreases-loop-i l = length l.s - l.i
