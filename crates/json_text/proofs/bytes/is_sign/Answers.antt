-- `json_text::bytes::is_sign` meets its contract.
use mathlib.Core.Path.{refl}
use Rattle.octets.specs.Pick.{◌and◌, ◌or◌}
use Rattle.json_text.proofs.bytes.is_sign.Goals as goal

pub returns : goal.returns
unfolding ◌and◌ ◌or◌
returns c = refl
