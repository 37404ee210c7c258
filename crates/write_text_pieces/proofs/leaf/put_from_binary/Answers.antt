-- `write_text_pieces::leaf::put_from_binary` meets its contract.
use Rattle.sink.specs.laws.Sink.{writing}
use Rattle.write_text_pieces.specs.laws.Leaves.{placing, put_address, put_binary}
use Rattle.write_text_pieces.proofs.leaf.put_from_binary.Goals as goal

pub put_binary-requires : goal.put_binary-requires
put_binary-requires g c = search writing

pub shape_of-out-then-t-eq-BINARY : goal.shape_of-out-then-t-eq-BINARY
shape_of-out-then-t-eq-BINARY g c = search writing

pub returns-then-t-eq-BINARY : goal.returns-then-t-eq-BINARY
returns-then-t-eq-BINARY g c = search (put_binary, placing)

pub put_boolean_text-requires : goal.put_boolean_text-requires
put_boolean_text-requires g c = search writing

pub shape_of-out-then-t-eq-BOOLEAN : goal.shape_of-out-then-t-eq-BOOLEAN
shape_of-out-then-t-eq-BOOLEAN g c = search writing

pub returns-then-t-eq-BOOLEAN : goal.returns-then-t-eq-BOOLEAN
returns-then-t-eq-BOOLEAN g c = search placing

pub put_uri-requires : goal.put_uri-requires
put_uri-requires g c = search writing

pub shape_of-out-then-t-eq-CAL_ADDRESS : goal.shape_of-out-then-t-eq-CAL_ADDRESS
shape_of-out-then-t-eq-CAL_ADDRESS g c = search writing

pub returns-then-t-eq-CAL_ADDRESS : goal.returns-then-t-eq-CAL_ADDRESS
returns-then-t-eq-CAL_ADDRESS g c = search (put_address, placing)

pub put_from_date-requires : goal.put_from_date-requires
put_from_date-requires g c = search writing

pub shape_of-out : goal.shape_of-out
shape_of-out g c = search writing

pub returns : goal.returns
returns g c = search placing
