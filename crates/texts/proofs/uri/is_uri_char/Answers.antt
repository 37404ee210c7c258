-- `texts::uri::is_uri_char` meets its contract.
use Rattle.octets.specs.laws.Pick.{branching}
use Rattle.texts.proofs.uri.is_uri_char.Goals as goal

pub returns-else-not-is_outside : goal.returns-else-not-is_outside
returns-else-not-is_outside c = rw c.if-not-is_outside.false (search branching)
