-- `times::period::slash_at` meets its contract.
use Rattle.times.specs.laws.PeriodAt.{cutting}
use Rattle.times.proofs.period.slash_at.Goals as goal

pub returns-then-a-eq-SLASH : goal.returns-then-a-eq-SLASH
returns-then-a-eq-SLASH g c = search cutting

pub returns-then-a-ne-UPPER_Z : goal.returns-then-a-ne-UPPER_Z
returns-then-a-ne-UPPER_Z g c = search cutting

pub returns-then-b-eq-SLASH : goal.returns-then-b-eq-SLASH
returns-then-b-eq-SLASH g c = search cutting

pub returns : goal.returns
returns g c = search cutting
