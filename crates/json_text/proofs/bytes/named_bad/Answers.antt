-- `json_text::bytes::named_bad` meets its contract.
use mathlib.Core.Path.{refl}
use Rattle.octets.specs.Pick.{◌and◌, ◌or◌}
use Rattle.json_text.proofs.bytes.named_bad.Goals as goal

pub returns : goal.returns
unfolding ◌and◌ ◌or◌
returns c = refl
