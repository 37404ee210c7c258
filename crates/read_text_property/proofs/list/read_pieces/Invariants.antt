-- `read_text_property::list::read_pieces` meets its contract.
use Prim.Native.Nat.{◌-◌}
use lib.ListN.{length}
use Rattle.schema.specs.Numbers.{type_at}
use Rattle.recur.specs.laws.PieceLaws.{Left}
use Rattle.read_text_property.specs.Listed.{each_value}
use Rattle.read_text_property.proofs.list.read_pieces.Given as goal

abbrev pub invariant-loop-v : goal.invariant-loop-v
invariant-loop-v g l = Left (each_value (type_at l.t)) 44 g.E.Encoding.encoding l.s l.at l.c

abbrev pub decreases-loop-v : goal.decreases-loop-v
decreases-loop-v g l = length l.s - l.c
