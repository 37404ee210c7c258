-- `recur::written::put_number` meets its contract.
use Rattle.recur.specs.laws.PutShown.{put_number}
use Rattle.recur.proofs.written.put_number.Goals as goal

pub returns : goal.returns
returns g c = put_number _ _ c.is_minus-negative.ensures c.after_sign-c.ensures c.numeral_of.ensures c.unwrap_or-n.ensures c.put_whole.ensures
