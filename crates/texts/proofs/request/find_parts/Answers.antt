-- `texts::request::find_parts` meets its contract.
use Rattle.texts.specs.laws.StatusParts.{finding_parts}
use Rattle.texts.proofs.request.find_parts.Goals as goal

pub returns-then-separator-eq-END : goal.returns-then-separator-eq-END
returns-then-separator-eq-END g c = search finding_parts

pub returns : goal.returns
returns g c = rw c.then_some.ensures (search finding_parts)
