-- `write_jcal_property::list::put_pieces` meets its contract.
use Prim.Native.Nat.{◌-◌}
use lib.ListN.{length}
use Rattle.schema.specs.Numbers.{type_at}
use Rattle.recur.specs.laws.PieceLaws.{pieces_less}
use Rattle.sink.specs.laws.Sink.{writing}
use Rattle.write_jcal_value.specs.laws.Pieces.{Piecing, piecing_start, piecing_more, piecing_end}
use Rattle.write_jcal_property.specs.Pieces.{piece_json}
use Rattle.write_jcal_property.specs.laws.Pieces.{put_pieces}
use Rattle.write_jcal_property.proofs.list.put_pieces.Given as goal

abbrev pub invariant-loop-n : goal.invariant-loop-n
invariant-loop-n g l = Piecing (piece_json (type_at l.t)) l.initial.out l.at g.E.Encoding.encoding l.s l.from l.out l.o l.c

abbrev pub decreases-loop-n : goal.decreases-loop-n
decreases-loop-n g l = length l.s - l.c
