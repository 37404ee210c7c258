-- `write_jcal_property::list::put_pieces` meets its contract.
use Prim.Native.Nat.{◌-◌}
use lib.ListN.{length}
use Rattle.schema.specs.Numbers.{type_at}
use Rattle.recur.specs.laws.PieceLaws.{pieces_less}
use Rattle.sink.specs.laws.Sink.{writing}
use Rattle.write_jcal_value.specs.laws.Pieces.{Piecing, piecing_start, piecing_more, piecing_end}
use Rattle.write_jcal_property.specs.Pieces.{piece_json}
use Rattle.write_jcal_property.specs.laws.Pieces.{put_pieces}
use Rattle.write_jcal_property.proofs.list.put_pieces.Goals as goal

pub loop-n-init : goal.loop-n-init
loop-n-init g c = search (piecing_start, writing)

pub byte_end-e-requires : goal.byte_end-e-requires
byte_end-e-requires g c = c.loop-n.invariant.inside

pub put_piece-a-requires : goal.put_piece-a-requires
put_piece-a-requires g c = search writing

pub unit-n-requires : goal.unit-n-requires
unit-n-requires g c = search writing

pub shape_of-out-then-u-eq-END : goal.shape_of-out-then-u-eq-END
shape_of-out-then-u-eq-END g c = search writing

pub returns-then-u-eq-END : goal.returns-then-u-eq-END
returns-then-u-eq-END g c = search (put_pieces, piecing_end, writing)

pub put-o-requires : goal.put-o-requires
put-o-requires g c = search writing

pub loop-n-smaller : goal.loop-n-smaller
loop-n-smaller g c = search (pieces_less, writing)

pub loop-n-preserved : goal.loop-n-preserved
loop-n-preserved g c = search (piecing_more, writing)
