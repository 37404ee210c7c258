-- `texts::read_request_status` meets its contract.
use Rattle.texts.specs.laws.StatusParts.{reading_status}
use Rattle.texts.proofs.request.read_request_status.Goals as goal

pub returns-then-read_text : goal.returns-then-read_text
returns-then-read_text g c = search reading_status

pub returns : goal.returns
returns g c = search reading_status
