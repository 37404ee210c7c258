-- `recur::put_word` meets its contract.
use Rattle.recur.specs.laws.PutShown.{put_kept, put_raised}
use Rattle.recur.proofs.written.put_word.Goals as goal

pub returns-then-from : goal.returns-then-from
returns-then-from g c = put_kept _ _ c.if-from.true c.put_rest.ensures

pub returns : goal.returns
returns g c = put_raised _ _ c.if-from.false c.put_upper.ensures
