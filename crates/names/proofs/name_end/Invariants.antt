-- `names::name_end` meets its contract.
use Prim.Native.Nat.{◌*◌, ◌-◌}
use lib.ListN.{length}
use Rattle.octets.specs.Class.{is_name_char}
use Rattle.names.specs.laws.Runs.{Running}
use Rattle.names.proofs.name_end.Given as goal

abbrev pub invariant-loop-n : goal.invariant-loop-n
invariant-loop-n g l = Running is_name_char g.E.Encoding.encoding l.s l.at l.c

abbrev pub decreases-loop-n : goal.decreases-loop-n
decreases-loop-n g l = 4 * length l.s - l.c
