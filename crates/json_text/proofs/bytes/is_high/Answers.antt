-- `json_text::bytes::is_high` meets its contract.
use mathlib.Core.Path.{refl}
use Rattle.octets.specs.Pick.{◌and◌, ◌or◌}
use Rattle.json_text.proofs.bytes.is_high.Goals as goal

pub returns : goal.returns
unfolding ◌and◌ ◌or◌
returns c = refl
