-- `recur::put_ordinal` meets its contract.
use Rattle.sink.specs.laws.Sink.{writing}
use Rattle.recur.specs.laws.PutShown.{put_no_ordinal, put_an_ordinal}
use Rattle.recur.proofs.written.put_ordinal.Goals as goal

pub returns-then-t-eq-END : goal.returns-then-t-eq-END
returns-then-t-eq-END g c = put_no_ordinal c.front_unit-t.ensures c.if-t-eq-END.true (search writing)

pub returns : goal.returns
returns g c = put_an_ordinal c.front_unit-t.ensures c.if-t-eq-END.false c.put_number.ensures
