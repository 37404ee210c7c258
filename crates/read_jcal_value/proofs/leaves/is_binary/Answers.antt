-- `read_jcal_value::is_binary` meets its contract.
use native.Mathlib.Omega.{arith}
use Rattle.read_jcal_value.specs.laws.Typed.{text_read}
use Rattle.read_jcal_value.proofs.leaves.is_binary.Goals as goal

pub returns : goal.returns
returns c = text_read 0 3 _ c.is_some.ensures (λ z. omega arith) c.read_value.ensures
