-- `texts::request::is_soon_over` meets its contract.
use Rattle.texts.specs.laws.StatusParts.{ending_soon}
use Rattle.texts.proofs.request.is_soon_over.Goals as goal

pub returns-then-separator-eq-END : goal.returns-then-separator-eq-END
returns-then-separator-eq-END g c = search ending_soon

pub returns : goal.returns
returns g c = search ending_soon
