-- `write_xml_property::put_pieces` meets its contract.
use Prim.Native.Nat.{◌-◌}
use lib.ListN.{length}
use Rattle.write_xml_property.specs.laws.Pieces.{Piecing, piecing}
use Rattle.write_xml_property.proofs.list.put_pieces.Goals as goal

pub loop-n-init : goal.loop-n-init
loop-n-init g c = search piecing

pub byte_end-e-requires : goal.byte_end-e-requires
byte_end-e-requires g c = search piecing

pub put_piece-o-requires : goal.put_piece-o-requires
put_piece-o-requires g c = search piecing

pub unit-n-requires : goal.unit-n-requires
unit-n-requires g c = search piecing

pub shape_of-out-then-u-eq-END : goal.shape_of-out-then-u-eq-END
shape_of-out-then-u-eq-END g c = search piecing

pub returns-then-u-eq-END : goal.returns-then-u-eq-END
returns-then-u-eq-END g c = search piecing

pub loop-n-smaller : goal.loop-n-smaller
loop-n-smaller g c = search piecing

pub loop-n-preserved : goal.loop-n-preserved
loop-n-preserved g c = search piecing
