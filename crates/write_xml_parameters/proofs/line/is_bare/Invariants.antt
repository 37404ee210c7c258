-- `write_xml_parameters::line::is_bare` meets its contract.
use mathlib.Core.Path.{◌≡◌, refl}
use Prim.Native.Nat.{◌*◌, ◌-◌}
use lib.ListN.{length}
use Rattle.octets.specs.Words.{is_empty}
use Rattle.read_text_line.specs.Cursor.{params_at}
use Rattle.read_text_line.specs.laws.Params.{param_less}
use Rattle.text.specs.Parameters.{own_parameters}
use Rattle.write_xml_parameters.specs.laws.Walk.{only_more, only_stop, only_over, only_fault}
use Rattle.sink.specs.laws.Sink.{writing}
use Rattle.write_xml_parameters.proofs.line.is_bare.Given as goal

abbrev pub invariant-loop-p : goal.invariant-loop-p
invariant-loop-p g l = is_empty (own_parameters (params_at g.E.Encoding.encoding l.s l.at)) ≡ is_empty (own_parameters (params_at g.E.Encoding.encoding l.s l.c))

abbrev pub decreases-loop-p : goal.decreases-loop-p
decreases-loop-p g l = 4 * length l.s - l.c
