-- `times::written::put_year` meets its contract.
use Rattle.sink.specs.laws.Sink.{writing}
use Rattle.times.specs.Written.{year_digits}
use Rattle.times.proofs.written.put_year.Goals as goal

pub returns : goal.returns
unfolding year_digits
returns c = search writing
