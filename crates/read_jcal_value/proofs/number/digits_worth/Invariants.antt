-- `read_jcal_value::digits_worth` meets its contract.
use Prim.Native.Nat.{◌-◌}
use lib.ListN.{length}
use Rattle.read_jcal_value.specs.laws.Digits.{Walking}
use Rattle.read_jcal_value.proofs.number.digits_worth.Given as goal

abbrev pub invariant-loop-i : goal.invariant-loop-i
invariant-loop-i l = Walking l.cap l.s l.from l.keep l.v l.i l.k l.w

abbrev pub decreases-loop-i : goal.decreases-loop-i
decreases-loop-i l = length l.s - l.i
