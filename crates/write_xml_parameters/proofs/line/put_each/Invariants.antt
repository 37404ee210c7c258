-- `write_xml_parameters::line::put_each` meets its contract.
use Prim.Native.Nat.{◌*◌, ◌-◌}
use lib.ListN.{length}
use Rattle.read_text_line.specs.Decoded.{params_in}
use Rattle.read_text_line.specs.laws.Params.{param_less}
use Rattle.write_xml_parameters.specs.Shown.{own_shown}
use Rattle.write_xml_parameters.specs.laws.Walk.{Writing}
use Rattle.write_xml_parameters.proofs.line.put_each.Given as goal

abbrev pub invariant-loop-p : goal.invariant-loop-p
invariant-loop-p g l = Writing own_shown l.initial.out l.o (params_in l.edition g.E.Encoding.encoding l.s l.at) l.out l.q (params_in l.edition g.E.Encoding.encoding l.s l.c)

abbrev pub decreases-loop-p : goal.decreases-loop-p
decreases-loop-p g l = 4 * length l.s - l.c
