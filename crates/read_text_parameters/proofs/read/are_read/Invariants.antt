-- `read_text_parameters::are_read` meets its contract.
use Rattle.read_text_parameters.specs.Readable.{is_readable}
use Rattle.text.specs.Parameters.{read_parameters}
use Rattle.read_text_line.specs.Decoded.{params_in}
use Rattle.octets.specs.Reading.{is_read}
use Rattle.octets.specs.Lists.{every}
use lib.ListN.{length}
use Prim.Native.Nat.{◌*◌, ◌-◌}
use mathlib.Core.Path.{◌≡◌}
use Rattle.read_text_parameters.proofs.read.are_read.Given as goal

abbrev pub invariant-loop-a : goal.invariant-loop-a
invariant-loop-a g l = is_read (read_parameters (params_in l.edition g.E.Encoding.encoding l.s l.e)) ≡ every is_readable (params_in l.edition g.E.Encoding.encoding l.s l.c)

abbrev pub decreases-loop-a : goal.decreases-loop-a
decreases-loop-a g l = 4 * length l.s - l.c
