-- `write_text_pieces::leaf::put_from_integer` meets its contract.
use Rattle.sink.specs.laws.Sink.{put_none, writing}
use Rattle.write_text_pieces.specs.laws.Leaves.{placing, put_integer, put_period, put_rule, put_text}
use Rattle.write_text_pieces.proofs.leaf.put_from_integer.Goals as goal

pub put_integer-requires : goal.put_integer-requires
put_integer-requires g c = search writing

pub shape_of-out-then-t-eq-INTEGER : goal.shape_of-out-then-t-eq-INTEGER
shape_of-out-then-t-eq-INTEGER g c = search writing

pub returns-then-t-eq-INTEGER : goal.returns-then-t-eq-INTEGER
returns-then-t-eq-INTEGER g c = search (put_integer, placing)

pub returns-then-t-eq-PERIOD : goal.returns-then-t-eq-PERIOD
returns-then-t-eq-PERIOD g c = search (put_period, put_none, placing)

pub returns-then-t-eq-RECUR : goal.returns-then-t-eq-RECUR
returns-then-t-eq-RECUR g c = search (put_rule, put_none, placing)

pub put_text_escaped-requires : goal.put_text_escaped-requires
put_text_escaped-requires g c = search writing

pub shape_of-out-then-t-eq-TEXT : goal.shape_of-out-then-t-eq-TEXT
shape_of-out-then-t-eq-TEXT g c = search writing

pub returns-then-t-eq-TEXT : goal.returns-then-t-eq-TEXT
returns-then-t-eq-TEXT g c = search (put_text, placing)

pub put_from_time-requires : goal.put_from_time-requires
put_from_time-requires g c = search writing

pub shape_of-out : goal.shape_of-out
shape_of-out g c = search writing

pub returns : goal.returns
returns g c = search placing
