-- `recur::put_weekdaynum` meets its contract.
use Rattle.sink.specs.laws.Sink.{◌▷◌}
use Rattle.recur.proofs.written.put_weekdaynum.Goals as goal

pub returns : goal.returns
returns g c = rw c.first_letter-c.ensures (c.put_ordinal-q.ensures ▷ c.put_word.ensures)
