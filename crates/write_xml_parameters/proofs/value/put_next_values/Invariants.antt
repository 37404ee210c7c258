-- `write_xml_parameters::value::put_next_values` meets its contract.
use Prim.Native.Nat.{◌*◌, ◌-◌}
use lib.ListN.{length}
use Rattle.source.specs.Source.{rest}
use Rattle.read_text_line.specs.ContentLine.{next_value}
use Rattle.read_text_line.specs.Items.{items}
use Rattle.read_text_line.specs.laws.Values.{value_less}
use Rattle.write_xml_parameters.specs.Shown.{chars_in}
use Rattle.write_xml_parameters.specs.Parts.{row_at}
use Rattle.write_xml_parameters.specs.laws.Walk.{Writing}
use Rattle.write_xml_parameters.proofs.value.put_next_values.Given as goal

abbrev pub invariant-loop-v : goal.invariant-loop-v
invariant-loop-v g l = Writing (chars_in l.edition (row_at l.q)) l.initial.out l.o (items next_value (rest g.E.Encoding.encoding l.s l.at)) l.out l.p (items next_value (rest g.E.Encoding.encoding l.s l.c))

abbrev pub decreases-loop-v : goal.decreases-loop-v
decreases-loop-v g l = 4 * length l.s - l.c
