-- `read_jcal_value::is_string_of` meets its contract.
use Rattle.read_jcal_value.specs.laws.Typed.{leaves}
use Rattle.read_jcal_value.proofs.leaves.is_string_of.Goals as goal

pub returns : goal.returns
returns c = search leaves
