-- `times::written::put_two` meets its contract.
use Rattle.sink.specs.laws.Sink.{◌▷◌}
use Rattle.octets.specs.Append.{◌⊕◌}
use Rattle.times.specs.Digits.{two_digits}
use Rattle.times.proofs.written.put_two.Goals as goal

pub returns : goal.returns
unfolding two_digits ◌⊕◌
returns c = c.put-p.ensures ▷ c.put.ensures
