-- `read_text_parameters::sought` meets its contract.
use mathlib.Core.Path.{refl}
use Rattle.read_text_parameters.specs.laws.Judging.{sought_now, sought_not}
use Rattle.read_text_parameters.proofs.walk.sought.Goals as goal

pub returns-then-k-eq-FEW : goal.returns-then-k-eq-FEW
returns-then-k-eq-FEW g c = sought_now _ _ refl c.if-k-eq-FEW.true c.first_again-again.ensures

pub returns : goal.returns
returns g c = sought_not _ _ refl c.if-k-eq-FEW.false
