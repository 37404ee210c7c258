-- `read_text_parameters::are_later_values` meets its contract.
use Rattle.read_text_parameters.specs.Typing.{is_value_in}
use Rattle.read_text_line.specs.Items.{items}
use Rattle.read_text_line.specs.ContentLine.{next_value}
use Rattle.schema.specs.Numbers.{parameter_at}
use Rattle.source.specs.Source.{rest}
use Rattle.octets.specs.Lists.{every}
use lib.ListN.{length}
use Prim.Native.Nat.{◌*◌, ◌-◌}
use mathlib.Core.Path.{◌≡◌}
use Rattle.read_text_parameters.proofs.several.are_later_values.Given as goal

abbrev pub invariant-loop-v : goal.invariant-loop-v
invariant-loop-v g l = every (is_value_in l.edition (parameter_at l.q)) (items next_value (rest g.E.Encoding.encoding l.s l.at)) ≡ every (is_value_in l.edition (parameter_at l.q)) (items next_value (rest g.E.Encoding.encoding l.s l.c))

abbrev pub decreases-loop-v : goal.decreases-loop-v
decreases-loop-v g l = 4 * length l.s - l.c
