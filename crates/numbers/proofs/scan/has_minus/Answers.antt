-- `numbers::scan::has_minus` meets its contract.
use Rattle.numbers.specs.laws.Spans.{minus_at}
use Rattle.numbers.proofs.scan.has_minus.Goals as goal

pub returns : goal.returns
returns g c = minus_at _ _ c.unit_to.ensures.is
