-- `read_text_line::carried::params_carried` meets its contract.
use mathlib.Core.Path.{◌≡◌}
use Prim.Native.Nat.{◌*◌, ◌-◌}
use lib.ListN.{length}
use Rattle.octets.specs.Lists.{every}
use Rattle.read_text_line.specs.Cursor.{params_at}
use Rattle.read_text_line.specs.Carried.{carries_name}
use Rattle.read_text_line.proofs.carried.params_carried.Given as goal

abbrev pub invariant-loop-p : goal.invariant-loop-p
invariant-loop-p g l = every carries_name (params_at g.E.Encoding.encoding l.s l.at) ≡ every carries_name (params_at g.E.Encoding.encoding l.s l.c)

abbrev pub decreases-loop-p : goal.decreases-loop-p
decreases-loop-p g l = 4 * length l.s - l.c
