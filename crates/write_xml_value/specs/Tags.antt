-- Names of elements by number, in small letters.
--     type_label              the name of a type
use Rattle.std.specs.Prelude.{List, ℕ}
use Rattle.octets.specs.Class.{lower}
use Rattle.schema.specs.Types.{type_name}
use Rattle.schema.specs.Numbers.{type_at}

abbrev pub type_label : ℕ → List ℕ
type_label t = lower (type_name (type_at t))
