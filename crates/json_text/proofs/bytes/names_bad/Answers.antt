-- `json_text::bytes::names_bad` meets its contract.
use mathlib.Core.Path.{refl}
use Rattle.octets.specs.Pick.{◌and◌, ◌or◌}
use Rattle.json_text.proofs.bytes.names_bad.Goals as goal

pub returns : goal.returns
unfolding ◌and◌ ◌or◌
returns c = refl
