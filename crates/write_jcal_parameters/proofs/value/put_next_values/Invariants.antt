-- `write_jcal_parameters::value::put_next_values` meets its contract.
use mathlib.Core.Bool.{true}
use mathlib.Core.List.{map}
use Prim.Native.Nat.{◌-◌, ◌*◌}
use lib.ListN.{length}
use Rattle.source.specs.Source.{rest}
use Rattle.read_text_line.specs.ContentLine.{next_value}
use Rattle.read_text_line.specs.Items.{items}
use Rattle.read_text_line.specs.laws.Values.{value_less}
use Rattle.write_json.specs.laws.Separated.{Listing, listing_start}
use Rattle.write_jcal_parameters.specs.Shown.{chars_in, row_at}
use Rattle.write_jcal_parameters.proofs.value.put_next_values.Given as goal

abbrev pub invariant-loop-v : goal.invariant-loop-v
invariant-loop-v g l = Listing true (map (chars_in l.edition (row_at l.q)) (items next_value (rest g.E.Encoding.encoding l.s l.at))) l.initial.out l.o l.out l.p true (map (chars_in l.edition (row_at l.q)) (items next_value (rest g.E.Encoding.encoding l.s l.c)))

abbrev pub decreases-loop-v : goal.decreases-loop-v
decreases-loop-v g l = 4 * length l.s - l.c
