-- `write_text_pieces::leaf::put_from_date` meets its contract.
use Rattle.sink.specs.laws.Sink.{writing}
use Rattle.write_text_pieces.specs.laws.Leaves.{placing, put_date, put_date_time, put_duration, put_float}
use Rattle.write_text_pieces.proofs.leaf.put_from_date.Goals as goal

pub put_date-requires : goal.put_date-requires
put_date-requires g c = search writing

pub shape_of-out-then-t-eq-DATE : goal.shape_of-out-then-t-eq-DATE
shape_of-out-then-t-eq-DATE g c = search writing

pub returns-then-t-eq-DATE : goal.returns-then-t-eq-DATE
returns-then-t-eq-DATE g c = search (put_date, placing)

pub put_date_time-requires : goal.put_date_time-requires
put_date_time-requires g c = search writing

pub shape_of-out-then-t-eq-DATE_TIME : goal.shape_of-out-then-t-eq-DATE_TIME
shape_of-out-then-t-eq-DATE_TIME g c = search writing

pub returns-then-t-eq-DATE_TIME : goal.returns-then-t-eq-DATE_TIME
returns-then-t-eq-DATE_TIME g c = search (put_date_time, placing)

pub put_duration-requires : goal.put_duration-requires
put_duration-requires g c = search writing

pub shape_of-out-then-t-eq-DURATION : goal.shape_of-out-then-t-eq-DURATION
shape_of-out-then-t-eq-DURATION g c = search writing

pub returns-then-t-eq-DURATION : goal.returns-then-t-eq-DURATION
returns-then-t-eq-DURATION g c = search (put_duration, placing)

pub put_float-requires : goal.put_float-requires
put_float-requires g c = search writing

pub shape_of-out-then-t-eq-FLOAT : goal.shape_of-out-then-t-eq-FLOAT
shape_of-out-then-t-eq-FLOAT g c = search writing

pub returns-then-t-eq-FLOAT : goal.returns-then-t-eq-FLOAT
returns-then-t-eq-FLOAT g c = search (put_float, placing)

pub put_from_integer-requires : goal.put_from_integer-requires
put_from_integer-requires g c = search writing

pub shape_of-out : goal.shape_of-out
shape_of-out g c = search writing

pub returns : goal.returns
returns g c = search placing
