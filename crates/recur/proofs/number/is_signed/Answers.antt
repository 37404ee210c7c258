-- `recur::is_signed` meets its contract.
use Rattle.recur.proofs.number.is_signed.Goals as goal

pub returns : goal.returns
returns g c = rw c.after_sign-c.ensures c.is_unsigned.ensures
