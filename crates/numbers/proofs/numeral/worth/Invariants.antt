-- `numbers::numeral::worth` meets its contract.
use Rattle.numbers.specs.Numeral.{front, worth_to}
use Rattle.source.specs.Source.{rest}
use mathlib.Core.Path.{◌≡◌}
use Prim.Native.Nat.{◌≤◌, ◌-◌, ◌*◌}
use lib.ListN.{length}
use Rattle.numbers.proofs.numeral.worth.Given as goal

abbrev pub invariant-loop-t : goal.invariant-loop-t
invariant-loop-t g l = (l.v ≤ l.most) × (worth_to l.most 0 (front l.letters (rest g.E.Encoding.encoding l.s l.at)) ≡ worth_to l.most l.v (front l.letters (rest g.E.Encoding.encoding l.s l.c)))

abbrev pub decreases-loop-t : goal.decreases-loop-t
decreases-loop-t g l = 4 * length l.s - l.c
