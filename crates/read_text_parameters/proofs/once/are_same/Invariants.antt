-- `read_text_parameters::are_same` meets its contract.
use Rattle.source.specs.Source.{rest}
use Rattle.octets.specs.Words.{same}
use Rattle.octets.specs.Class.{upper}
use lib.ListN.{length}
use Prim.Native.Nat.{◌*◌, ◌-◌}
use mathlib.Core.Path.{◌≡◌}
use Rattle.read_text_parameters.proofs.once.are_same.Given as goal

abbrev pub invariant-loop-x : goal.invariant-loop-x
invariant-loop-x g l = same (upper (rest g.E.Encoding.encoding l.s l.a)) (upper (rest g.E.Encoding.encoding l.t l.b)) ≡ same (upper (rest g.E.Encoding.encoding l.s l.c)) (upper (rest g.E.Encoding.encoding l.t l.d))

abbrev pub decreases-loop-x : goal.decreases-loop-x
decreases-loop-x g l = 4 * length l.s - l.c
