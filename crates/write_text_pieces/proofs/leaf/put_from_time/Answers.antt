-- `write_text_pieces::leaf::put_from_time` meets its contract.
use Rattle.sink.specs.laws.Sink.{writing}
use Rattle.write_text_pieces.specs.laws.Leaves.{placing, put_offset, put_time, put_unknown, put_uri}
use Rattle.write_text_pieces.proofs.leaf.put_from_time.Goals as goal

pub put_time-requires : goal.put_time-requires
put_time-requires g c = search writing

pub shape_of-out-then-t-eq-TIME : goal.shape_of-out-then-t-eq-TIME
shape_of-out-then-t-eq-TIME g c = search writing

pub returns-then-t-eq-TIME : goal.returns-then-t-eq-TIME
returns-then-t-eq-TIME g c = search (put_time, placing)

pub put_uri-requires : goal.put_uri-requires
put_uri-requires g c = search writing

pub shape_of-out-then-t-eq-URI : goal.shape_of-out-then-t-eq-URI
shape_of-out-then-t-eq-URI g c = search writing

pub returns-then-t-eq-URI : goal.returns-then-t-eq-URI
returns-then-t-eq-URI g c = search (put_uri, placing)

pub put_utc_offset-requires : goal.put_utc_offset-requires
put_utc_offset-requires g c = search writing

pub shape_of-out-then-t-eq-UTC_OFFSET : goal.shape_of-out-then-t-eq-UTC_OFFSET
shape_of-out-then-t-eq-UTC_OFFSET g c = search writing

pub returns-then-t-eq-UTC_OFFSET : goal.returns-then-t-eq-UTC_OFFSET
returns-then-t-eq-UTC_OFFSET g c = search (put_offset, placing)

pub put_unknown-requires : goal.put_unknown-requires
put_unknown-requires g c = search writing

pub shape_of-out : goal.shape_of-out
shape_of-out g c = search writing

pub returns : goal.returns
returns g c = search (put_unknown, placing)
